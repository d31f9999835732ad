-- The quotient of a par yield. Assumes nothing.
use mathlib.Core.Path.{◌≡◌, sym, ap, ◌∙◌}
use mathlib.Core.Bool.{false}
use mathlib.Core.List.{List}
use Prim.Native.Nat.{ℕ, suc}
use lib.Dec.{eqb}
use lib.IntN.{pos}
use lib.Ieee.{Float, binary64, sub, mul, div, lt, of_int}
use borrow.Author.Tests.{ne_eqb}
use Rattle.numbers.specs.Literals.{one, tiny}
use Rattle.numbers.specs.Sizes.{absolute}
use Rattle.numbers.specs.Sums.{added_up}
use Rattle.yield_curve.specs.Linear.{discount_of, half_years, half_year, discount_sum, par_of}
use Rattle.curves.proofs.Choices.{left}

module _ (times rates : List Float) (t : Float) (count : ℕ) (is_count : count ≡ half_years t) where
  abbrev period : Float
  period = div binary64 t (of_int binary64 (pos count))

  -- the sum of the discount factors at the dates that are counted
  module _ (sum : Float) (is_sum : sum ≡ added_up (λ (i : ℕ). discount_of times rates (mul binary64 (of_int binary64 (pos (suc i))) period)) count) (some : count ≡ 0 → ⊥) where
    period_is : period ≡ half_year t
    unfolding half_year
    period_is = rw is_count

    sum_is : sum ≡ discount_sum times rates t
    unfolding discount_sum half_year
    sum_is = is_sum ∙ rw is_count

    none_is : eqb (half_years t) 0 ≡ false
    none_is = ne_eqb _ 0 (λ z. some (is_count ∙ z))

    module _ (size : Float) (is_size : size ≡ absolute sum) where
      size_is : size ≡ absolute (discount_sum times rates t)
      size_is = is_size ∙ ap absolute sum_is

      pub quotient : (df : Float) → df ≡ discount_of times rates t → lt size tiny ≡ false
          → div binary64 (sub binary64 one df) (mul binary64 period sum) ≡ par_of times rates t
      unfolding par_of
      quotient df is_df h = rw (is_df, period_is, sum_is) (left _ _ _ (ap (λ (x : Float). lt x tiny) (sym size_is) ∙ h) ∙ left _ _ _ none_is)
