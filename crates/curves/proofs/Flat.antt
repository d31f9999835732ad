-- A curve before its first knot, past its last, and between them, for any formula between; and the four numbers of a segment. Assumes nothing.
use mathlib.Core.Path.{◌≡◌, sym, ap, ◌∙◌}
use mathlib.Core.Bool.{Bool, true, false, cond}
use mathlib.Core.List.{List}
use Prim.Native.Nat.{ℕ}
use lib.Ieee.{Float, le}
use Rattle.curves.specs.Segments.{knot, last_of, flat_outside, ends_of}
use Rattle.curves.specs.inner.Kinds.{EndsAre}

module _ (times rates : List Float) (t between : Float) (first : Float) (is_first : first ≡ knot times 0) where
  abbrev after : Float
  after = cond (le (last_of times) t) (last_of rates) between

  pub before_first : (r : Float) → r ≡ knot rates 0 → le t first ≡ true → r ≡ flat_outside times rates t between
  unfolding flat_outside
  before_first r e h = e ∙ sym (ap (λ (b : Bool). cond b (knot rates 0) after) (ap (le t) (sym is_first) ∙ h))

  past_first : le t first ≡ false → after ≡ flat_outside times rates t between
  unfolding flat_outside
  past_first h = sym (ap (λ (b : Bool). cond b (knot rates 0) after) (ap (le t) (sym is_first) ∙ h))

  module _ (h : le t first ≡ false) (last : Float) (is_last : last ≡ last_of times) where
    at : (b : Bool) → le last t ≡ b → cond b (last_of rates) between ≡ flat_outside times rates t between
    at b g = sym (ap (λ (b : Bool). cond b (last_of rates) between) (ap (λ (x : Float). le x t) (sym is_last) ∙ g)) ∙ past_first h

    pub past_last : (r : Float) → r ≡ last_of rates → le last t ≡ true → r ≡ flat_outside times rates t between
    past_last r e g = e ∙ at true g

    pub inside : (r : Float) → r ≡ between → le last t ≡ false → r ≡ flat_outside times rates t between
    inside r e g = e ∙ at false g

-- the ends that were read are the segment's
pub ends_are : (times rates : List Float) (i : ℕ) (a b c d : Float) → EndsAre times rates i a b c d → record { t0 = a; t1 = b; r0 = c; r1 = d } ≡ ends_of times rates i
ends_are times rates i a b c d h = rw (h.0, h.1, h.2, h.3)

-- by what was read of the first and the last knot
pub flat_is : (times rates : List Float) (t between first before last after : Float) → (first ≡ knot times 0) × (before ≡ knot rates 0) × (last ≡ last_of times) × (after ≡ last_of rates)
    → cond (le t first) before (cond (le last t) after between) ≡ flat_outside times rates t between
unfolding flat_outside
flat_is times rates t between first before last after h = rw (h.0, h.1, h.2, h.3)
