-- A curve that is accepted, at its knots, for any formula between: the segment that serves an inner knot ends there, or starts there, as the rule asks; the first and the last knot give their own
-- rate to the bit. Assumes nothing.
use mathlib.Core.Path.{◌≡◌, refl, sym, ap, ◌∙◌}
use mathlib.Core.Bool.{Bool, true, false, not, ◌||◌}
use mathlib.Core.List.{List, []}
use Prim.Native.Nat.{ℕ, suc, ◌+◌, ◌-◌, ◌<◌, ◌≤◌}
use native.Mathlib.Omega.{arith}
use lib.Dec.{T, ltb}
use lib.ListN.{length}
use lib.Ieee.{Float, binary64, lt, le, fits}
use lib.Ieee.Bits.{is_true}
use lib.Ieee.Scale.{finite}
use borrow.Author.Tests.{ltb-true, ltb-false}
use Rattle.numbers.specs.Clamps.{plus_zero}
use Rattle.numbers.proofs.Amounts.{passes, amount}
use Rattle.numbers.proofs.Order.{amount_by_tests}
use Rattle.numbers.proofs.Comparing.{clash, lt_itself, le_itself, not_at_or_below}
use Rattle.refusals.specs.Outcome.{accepted}
use Rattle.refusals.specs.Table.{bad_knot}
use Rattle.refusals.proofs.Verdicts.{verdict}
use Rattle.curves.specs.Segments.{knot, last_of, segment_ending, segment_starting, flat_outside, Rising}
use Rattle.curves.specs.inner.Halving.{ending, starting, segment_by}
use Rattle.curves.specs.inner.Halving.{passes as passes_by}
use Rattle.curves.specs.Curve.{curve_lines}
use Rattle.curves.proofs.Serving.{by_rule, serves_before, passes_on, serves_after}
use Rattle.curves.proofs.Flat.{before_first, past_last, inside}
use Rattle.curves.proofs.Listing.{some_knots, same_length, in_rising_order, sound_knots}

-- the numbers of a list are floats of the machine
abbrev pub Floats : List Float → Type 0
Floats xs = (k : ℕ) → k < length xs → T (fits binary64 (knot xs k))

-- what a sound knot is: a finite time and rate, and a time that is not below zero
sound_is : (t r below : Bool) → (not t || not r || below) ≡ false → (t ≡ true) × (r ≡ true) × (below ≡ false)
sound_is true true below e = (refl, refl, e)
sound_is true false below e = clash (sym e)
sound_is false r below e = clash (sym e)

module _ (times rates : List Float) (good : verdict (curve_lines times rates) ≡ accepted tt) where
  pub rises : Rising times
  rises = in_rising_order times rates [] (sym good)

  -- of two knots the earlier is before the later
  pub earlier : (j i : ℕ) → j < i → i < length times → lt (knot times j) (knot times i) ≡ true
  unfolding passes_by
  earlier j i h g =
      let e : suc j + (i - suc j) ≡ i = omega arith in
      ap (λ (n : ℕ). lt (knot times j) (knot times n)) (sym e)
      ∙ passes_on (by_rule starting (knot times j)) times rises (i - suc j) (suc j) (omega arith) (rises j (omega arith))

  module _ (k : ℕ) (h : k < length times) where
    knot_is : (finite (knot times k) ≡ true) × (finite (knot rates k) ≡ true) × (lt (knot times k) plus_zero ≡ false)
    unfolding bad_knot
    knot_is = sound_is _ _ _ (sound_knots times rates [] (sym good) k h)

    pub time_finite : finite (knot times k) ≡ true
    time_finite = knot_is.0

    pub rate_finite : T (finite (knot rates k))
    rate_finite = passes knot_is.1

    pub time_amount : T (fits binary64 (knot times k)) → T (amount binary64 (knot times k))
    time_amount f = amount_by_tests binary64 (knot times k) (is_true _ f) knot_is.0 knot_is.2

  -- ---- an inner knot: one has a knot before it and one after
  module _ (i : ℕ) (inner : suc (suc i) < length times) where
    abbrev t : Float
    t = knot times (suc i)

    pub segment_that_ends : segment_ending times t ≡ i
    unfolding segment_by passes_by
    segment_that_ends =
        let at_most : segment_ending times t ≤ i = serves_before (by_rule ending t) times i (omega arith) (le_itself t (time_finite (suc i) (omega arith))) in
        let at_least : i ≤ segment_ending times t = serves_after (by_rule ending t) times rises i (omega arith) (not_at_or_below (knot times i) t (rises i (omega arith))) in
        omega arith

    pub segment_that_starts : segment_starting times t ≡ suc i
    unfolding segment_by passes_by
    segment_that_starts =
        let at_most : segment_starting times t ≤ suc i = serves_before (by_rule starting t) times (suc i) inner (rises (suc i) inner) in
        let at_least : suc i ≤ segment_starting times t = serves_after (by_rule starting t) times rises (suc i) (omega arith) (lt_itself t) in
        omega arith

    -- what is said between the ends is what is given
    pub at_an_inner_knot : (between : Float) → flat_outside times rates t between ≡ between
    at_an_inner_knot between =
        sym (inside times rates t between _ refl (not_at_or_below (knot times 0) t (earlier 0 (suc i) (omega arith) (omega arith))) _ refl between refl
        (not_at_or_below t (last_of times) (earlier (suc i) (length times - 1) (omega arith) (omega arith))))

  -- ---- the two ends, for any rate and any formula between
  first_at_itself : le (knot times 0) (knot times 0) ≡ true
  first_at_itself = le_itself (knot times 0) (time_finite 0 (some_knots times rates [] (sym good)))

  pub at_the_first_knot : (between : Float) → flat_outside times rates (knot times 0) between ≡ knot rates 0
  at_the_first_knot between = sym (before_first times rates (knot times 0) between _ refl _ refl first_at_itself)

  pub at_the_last_knot : (between : Float) → flat_outside times rates (last_of times) between ≡ last_of rates
  at_the_last_knot between = go (ltb 1 (length times)) (ltb-true 1 (length times)) (ltb-false 1 (length times))
    where
      go : (b : Bool) → (b ≡ true → 1 < length times) → (b ≡ false → length times ≤ 1) → flat_outside times rates (last_of times) between ≡ last_of rates
      go true several one_only =
          let more : 1 < length times = several refl in
          let last_finite = time_finite (length times - 1) (omega arith) in
          sym (past_last times rates (last_of times) between _ refl (not_at_or_below (knot times 0) (last_of times) (earlier 0 (length times - 1) (omega arith) (omega arith))) _ refl _ refl (le_itself (last_of times) last_finite))
      go false several one_only =
          let few : length times ≤ 1 = one_only refl in
          let at : length times - 1 ≡ 0 = omega arith in
          let rate_at_lem : 0 ≡ length rates - 1 = omega (arith, same_length times rates [] (sym good)) in
          ap (λ (n : ℕ). flat_outside times rates (knot times n) between) at ∙ at_the_first_knot between ∙ ap (knot rates) rate_at_lem
