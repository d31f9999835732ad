-- With the curve's rates kept at the flows' times, the factors and sums are the definition's. Assumes nothing.
use mathlib.Core.Path.{◌≡◌, sym, ap, ◌∙◌}
use mathlib.Core.Bool.{true, false}
use mathlib.Core.List.{List}
use Prim.Native.Nat.{ℕ}
use lib.ListN.{length}
use lib.Ieee.{Float, binary64, neg, add, mul, div, lt}
use Rattle.numbers.specs.Literals.{tiny}
use Rattle.numbers.specs.Clamps.{plus_zero}
use Rattle.numbers.specs.Sizes.{absolute}
use Rattle.numbers.specs.Sums.{added_up}
use Rattle.numbers.proofs.Sums.{same_added}
use Rattle.elementary.specs.Exp.{exp}
use Rattle.curves.specs.Segments.{knot}
use Rattle.curves.proofs.Filling.{Holds}
use Rattle.spread_analytics.specs.Units.{as_decimal}
use Rattle.spread_analytics.specs.Curves.{rate_of}
use Rattle.spread_analytics.specs.Spread.{factor_of, worth_of, duration_of, convexity_of, sensitivity_of}

-- ---- the flows' factors, over rates that were kept
module _ (times amounts tenors rates kept factors : List Float) (points s : Float) (d : s ≡ as_decimal points)
    (k : Holds kept (λ (i : ℕ). rate_of tenors rates (knot times i)) (length times))
    (g : Holds factors (λ (i : ℕ). exp (mul binary64 (neg (add binary64 (knot kept i) s)) (knot times i))) (length times)) where
  factor_is : Holds factors (factor_of times amounts tenors rates (as_decimal points)) (length times)
  unfolding factor_of
  factor_is i h = g i h ∙ rw (k i h, d)

  -- a sum of any weights times the factors
  pub discounted_is : (w : ℕ → Float) (n : ℕ) → n ≡ length times
      → added_up (λ (i : ℕ). mul binary64 (w i) (knot factors i)) n ≡ added_up (λ (i : ℕ). mul binary64 (w i) (factor_of times amounts tenors rates (as_decimal points) i)) (length times)
  discounted_is w n e =
      ap (added_up (λ (i : ℕ). mul binary64 (w i) (knot factors i))) e
      ∙ same_added (λ (i : ℕ). mul binary64 (w i) (knot factors i)) (λ (i : ℕ). mul binary64 (w i) (factor_of times amounts tenors rates (as_decimal points) i)) (length times)
      (λ i h. ap (mul binary64 (w i)) (factor_is i h))

  pub worth_is : (n : ℕ) → n ≡ length times → added_up (λ (i : ℕ). mul binary64 (knot amounts i) (knot factors i)) n ≡ worth_of times amounts tenors rates points
  unfolding worth_of
  worth_is n e = discounted_is (knot amounts) n e

-- ---- duration and convexity, where the worth is next to nothing and where it is not
module _ (times amounts tenors rates : List Float) (points worth size : Float) (w : worth ≡ worth_of times amounts tenors rates points) (a : size ≡ absolute worth) where
  pub no_sensitivity : lt size tiny ≡ true → record { duration = plus_zero; convexity = plus_zero } ≡ sensitivity_of times amounts tenors rates points
  unfolding sensitivity_of
  no_sensitivity h = rw (sym w, sym a, h)

  pub sensitivity_is : lt size tiny ≡ false → (timed squared : Float)
      → timed ≡ added_up (λ (i : ℕ). mul binary64 (mul binary64 (knot times i) (knot amounts i)) (factor_of times amounts tenors rates (as_decimal points) i)) (length times)
      → squared ≡ added_up (λ (i : ℕ). mul binary64 (mul binary64 (mul binary64 (knot times i) (knot times i)) (knot amounts i)) (factor_of times amounts tenors rates (as_decimal points) i)) (length times)
      → record { duration = div binary64 timed worth; convexity = div binary64 squared worth } ≡ sensitivity_of times amounts tenors rates points
  unfolding sensitivity_of duration_of convexity_of
  sensitivity_is h timed squared t q = rw (sym w, sym a, h, t, q)
