-- Whole powers by repeated squaring, in document 01's order of steps. Definitions only. Assumes nothing.
use Rattle.std.specs.Prelude.{ℕ, zero, suc, ◌/◌, ◌%◌, cond, eqb, Float}
use Rattle.std.specs.Float.{binary64}
use Rattle.std.specs.Float.Ieee.{mul, div}
use Rattle.numbers.specs.Literals.{one}

-- "While the exponent is not 0, multiply by the base if it is odd, halve, square the base if some is left": at most k turns, at exponent n
unfoldable pub turns : ℕ → ℕ → Float → Float → Float
turns zero n product base = product
turns (suc k) zero product base = product
turns (suc k) (suc m) product base =
    turns k (suc m / 2) (cond (eqb (suc m % 2) 1) (mul binary64 product base) product)
    (cond (eqb (suc m / 2) 0) base (mul binary64 base base))

-- "Start at 1": an exponent halved each turn is 0 after as many turns as it says
unfoldable pub whole_power : Float → ℕ → Float
whole_power base n = turns n n one base

-- "A negative one takes the reciprocal last"
unfoldable pub negative_power : Float → ℕ → Float
negative_power base n = div binary64 one (whole_power base n)
