-- What a desk may lean on: outside its knots the discount curve is flat, and at or before time 0 a discount factor is 1. Assumes nothing.
use mathlib.Core.Path.{◌≡◌, refl, sym}
use mathlib.Core.Bool.{true, false}
use mathlib.Core.List.{List}
use lib.Ieee.{Float, le}
use Rattle.numbers.specs.Literals.{one}
use Rattle.numbers.specs.Clamps.{plus_zero}
use Rattle.curves.specs.Segments.{knot, last_of}
use Rattle.curves.proofs.Choices.{taken}
use Rattle.curves.proofs.Flat.{before_first, past_last}
use Rattle.swaps.specs.Discount.{zero_rate_of, discount_of}

module _ (tenors zeros : List Float) (t : Float) where
  pub rate_before_the_first : le t (knot tenors 0) ≡ true → zero_rate_of tenors zeros t ≡ knot zeros 0
  unfolding zero_rate_of
  rate_before_the_first h = sym (before_first tenors zeros t _ _ refl _ refl h)

  pub rate_past_the_last : le t (knot tenors 0) ≡ false → le (last_of tenors) t ≡ true → zero_rate_of tenors zeros t ≡ last_of zeros
  unfolding zero_rate_of
  rate_past_the_last h g = sym (past_last tenors zeros t _ _ refl h _ refl _ refl g)

  pub no_discount_yet : le t plus_zero ≡ true → discount_of tenors zeros t ≡ one
  unfolding discount_of
  no_discount_yet h = sym (taken _ _ _ h)
