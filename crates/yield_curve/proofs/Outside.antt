-- What a desk may lean on: outside its knots a curve is flat, straight or spline, and at time 0 a Nelson-Siegel yield and forward are the instantaneous forward. Assumes nothing.
use mathlib.Core.Path.{◌≡◌, refl, sym}
use mathlib.Core.Bool.{Bool, true, false, cond}
use mathlib.Core.List.{List, [], ◌∷◌}
use lib.Dec.{ltb}
use lib.ListN.{length}
use lib.Ieee.{Float, le, lt, of_bits}
use Rattle.numbers.specs.Clamps.{plus_zero}
use Rattle.yield_curve.specs.declared.nelson_siegel.NelsonSiegel.{NelsonSiegel}
use Rattle.curves.specs.Segments.{knot, last_of}
use Rattle.yield_curve.specs.Linear.{yield_of}
use Rattle.yield_curve.specs.Spline.{spline_of}
use Rattle.yield_curve.specs.NelsonSiegel.{soon, instant_forward, yield_on, forward_on}
use Rattle.yield_curve.specs.Fit.{decay_fitted, fitted}
use Rattle.curves.proofs.Choices.{taken}
use Rattle.curves.proofs.Flat.{before_first, past_last}

-- the two arms of a choice agree
pub same_arms : {Value : Type 0} (b : Bool) (x y v : Value) → x ≡ v → y ≡ v → cond b x y ≡ v
same_arms true x y v e f = e
same_arms false x y v e f = f

module _ (times rates : List Float) (t : Float) where
  pub yield_before_the_first : le t (knot times 0) ≡ true → yield_of times rates t ≡ knot rates 0
  unfolding yield_of
  yield_before_the_first h = sym (before_first times rates t _ _ refl _ refl h)

  pub yield_past_the_last : le t (knot times 0) ≡ false → le (last_of times) t ≡ true → yield_of times rates t ≡ last_of rates
  unfolding yield_of
  yield_past_the_last h g = sym (past_last times rates t _ _ refl h _ refl _ refl g)

  pub spline_before_the_first : le t (knot times 0) ≡ true → spline_of times rates t ≡ knot rates 0
  unfolding spline_of
  spline_before_the_first h = same_arms (ltb (length times) 3) _ _ _ (yield_before_the_first h) (sym (before_first times rates t _ _ refl _ refl h))

  pub spline_past_the_last : le t (knot times 0) ≡ false → le (last_of times) t ≡ true → spline_of times rates t ≡ last_of rates
  unfolding spline_of
  spline_past_the_last h g = same_arms (ltb (length times) 3) _ _ _ (yield_past_the_last h g) (sym (past_last times rates t _ _ refl h _ refl _ refl g))

zero_is_soon : lt plus_zero soon ≡ true
unfolding lt of_bits
zero_is_soon = refl

pub yield_at_zero : (m : NelsonSiegel) → yield_on m plus_zero ≡ instant_forward m
unfolding yield_on
yield_at_zero m = sym (taken _ _ _ zero_is_soon)

pub forward_at_zero : (m : NelsonSiegel) → forward_on m plus_zero ≡ instant_forward m
unfolding forward_on
forward_at_zero m = sym (taken _ _ _ zero_is_soon)

-- one point is fitted by its own rate as the level
pub one_point : (t r : Float) → fitted (t ∷ []) (r ∷ []) ≡ record { beta0 = r; beta1 = plus_zero; beta2 = plus_zero; decay = decay_fitted }
unfolding fitted
one_point t r = refl
