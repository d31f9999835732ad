-- Eight numbers worked on place by place, each made of one in a list and one in another, both lists worked out from the same eight. Assumes nothing.
use mathlib.Core.Path.{◌≡◌, sym, ap, ◌∙◌}
use mathlib.Core.List.{List, map}
use Prim.Native.Nat.{ℕ, ◌+◌, ◌≤◌, ◌<◌}
use native.Mathlib.Omega.{arith}
use lib.ListN.{length, get_or, set}
use lib.Ieee.{Float, nan}
use Rattle.numbers.proofs.Mapped.{map_at}
use Rattle.elementary.proofs.PartWay.{part_way, at_start, one_further, next_of, at_end_lem}
use Rattle.swaps.specs.inner.Knots.{EachOf}

module _ (made : Float → Float → Float) (firsts seconds : List Float) where
  -- the first j are made, the others are as they were
  abbrev pub MadeTo : ℕ → List Float → Type 0
  MadeTo j ys =
      (xs : List Float) (f g : Float → Float) → length xs ≡ 8 → firsts ≡ map f xs → seconds ≡ map g xs → ys ≡ part_way (λ (x : Float). made (f x) (g x)) f j xs

  pub none_made : MadeTo 0 firsts
  none_made xs f g eight p q = p ∙ sym (at_start (λ (x : Float). made (f x) (g x)) f xs)

  pub one_made : (j : ℕ) (ys : List Float) (v : Float) → j < 8 → MadeTo j ys → v ≡ made (get_or ys j nan) (get_or seconds j nan) → MadeTo (j + 1) (set ys j v)
  one_made j ys v h done is xs f g eight p q =
      let within : j < length xs = omega arith in
      let so_far = done xs f g eight p q in
      one_further (λ (x : Float). made (f x) (g x)) f j xs ys v within so_far
      (is ∙ rw (next_of (λ (x : Float). made (f x) (g x)) f j xs ys within so_far, ap (λ (l : List Float). get_or l j nan) q ∙ map_at g j xs within))

  pub all_made : (j : ℕ) (ys : List Float) → 8 ≤ j → MadeTo j ys → EachOf made firsts seconds ys
  all_made j ys h done xs f g eight p q = done xs f g eight p q ∙ at_end_lem (λ (x : Float). made (f x) (g x)) f j xs (omega arith)
