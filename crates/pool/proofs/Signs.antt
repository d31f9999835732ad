-- Above 0, and at or below it: of a number that is no NaN one of the two holds. Assumes nothing.
use mathlib.Core.Path.{◌≡◌, refl}
use mathlib.Core.Bool.{true, false}
use lib.Ieee.{Float, lt, le, of_bits}
use lib.Ieee.Scale.{finite}
use Rattle.numbers.specs.Clamps.{plus_zero}
use Rattle.numbers.proofs.Comparing.{at_or_below, not_at_or_below, le_itself}

zero_finite : finite plus_zero ≡ true
unfolding of_bits
zero_finite = refl

pub above_not_at_most : (b : Float) → lt plus_zero b ≡ true → le b plus_zero ≡ false
above_not_at_most b h = not_at_or_below plus_zero b h

pub at_most : (b : Float) → finite b ≡ true → lt plus_zero b ≡ false → le b plus_zero ≡ true
at_most b f h = at_or_below b plus_zero f zero_finite h

pub zero_at_most : le plus_zero plus_zero ≡ true
zero_at_most = le_itself plus_zero zero_finite
