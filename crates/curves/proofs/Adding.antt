-- Sums that are added left to right: one term more, and a sum that is carried on over terms that come after others. Assumes nothing.
use mathlib.Core.Path.{◌≡◌, refl, sym, ap, ◌∙◌, subst}
use mathlib.Core.List.{List, [], ◌∷◌}
use Prim.Native.Nat.{ℕ, suc, ◌+◌, ◌<◌}
use native.Mathlib.Nat.{add-zero, zero-add}
use native.Mathlib.Numerals.{add-one}
use native.Mathlib.Omega.{arith}
use lib.ListN.{length}
use lib.Ieee.{Float, binary64, add}
use Rattle.std.specs.Prelude.{fold}
use Rattle.numbers.specs.Clamps.{plus_zero}
use Rattle.numbers.specs.Sums.{added_up}
use Rattle.curves.specs.Segments.{knot}

pub one_more : (f : ℕ → Float) (k : ℕ) (sum term : Float) → sum ≡ added_up f k → term ≡ f k → add binary64 sum term ≡ added_up f (k + 1)
unfolding added_up
one_more f k sum term s t = rw (add-one k, s, t)

-- whatever the terms before were: n terms t more
abbrev pub Carried : Float → Float → (ℕ → Float) → ℕ → Type 0
Carried before sum t n = (term : ℕ → Float) (k : ℕ) → before ≡ added_up term k → ((i : ℕ) → i < n → t i ≡ term (k + i)) → sum ≡ added_up term (k + n)

module _ (before : Float) (t : ℕ → Float) where
  pub nothing_yet_lem : Carried before before t 0
  nothing_yet_lem term k b h = b ∙ ap (added_up term) (sym (add-zero k))

  pub further : (sum : Float) (n : ℕ) → Carried before sum t n → Carried before (add binary64 sum (t n)) t (n + 1)
  further sum n c term k b h =
      one_more term (k + n) sum (t n) (c term k b (λ i l. h i (omega arith))) (h n (omega arith)) ∙ ap (added_up term) (turn k n)
    where
      turn : (k n : ℕ) → k + n + 1 ≡ k + (n + 1)
      turn k n = omega arith

  pub all_of : (sum : Float) (i n : ℕ) → i ≡ n → Carried before sum t i → Carried before sum t n
  all_of sum i n e = subst (Carried before sum t) e

-- numbers added to those before by a fold
pub numbers_carried : (xs : List Float) (before : Float) → Carried before (fold (add binary64) before xs) (knot xs) (length xs)
numbers_carried [] before = nothing_yet_lem before (knot [])
numbers_carried (x ∷ xs) before = λ term k b t.
    let here : k + 0 ≡ k = omega arith in
    let later : (i : ℕ) → k + suc i ≡ k + 1 + i = λ i. omega arith in
    numbers_carried xs (add binary64 before x) term (k + 1) (one_more term k before x b (t 0 (omega arith) ∙ ap term here))
    (λ i l. t (suc i) (omega arith) ∙ ap term (later i)) ∙ ap (added_up term) (sym (later (length xs)))

-- with no terms before
pub from_nothing : (sum : Float) (t : ℕ → Float) (n : ℕ) → Carried plus_zero sum t n → sum ≡ added_up t n
unfolding added_up
from_nothing sum t n c = c t 0 refl (λ i h. ap t (sym (zero-add i))) ∙ ap (added_up t) (zero-add n)
