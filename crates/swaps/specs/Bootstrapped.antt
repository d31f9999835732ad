-- The curve that a bootstrap hands back: in room for 120 knots, +0 beyond them, and all +0 where it is refused. Definitions only. Assumes nothing.
use Rattle.std.specs.Prelude.{◌-◌, List, [], ◌++◌, length, replicate, Float}
use Rattle.numbers.specs.Clamps.{plus_zero}
use Rattle.refusals.specs.Outcome.{Outcome, refused, accepted}
use Rattle.swaps.specs.declared.bootstrap.DiscountCurve.{DiscountCurve}
use Rattle.swaps.specs.Bootstrap.{from_par_rates}

unfoldable pub in_room : List Float → List Float
in_room xs = xs ++ replicate (120 - length xs) plus_zero

unfoldable pub curve_of : List Float → Outcome (List Float) → DiscountCurve
curve_of tenors (refused k p) = record { tenors = in_room []; zeros = in_room []; knots = 0 }
curve_of tenors (accepted zeros) = record { tenors = in_room tenors; zeros = in_room zeros; knots = length tenors }

unfoldable pub bootstrapped : List Float → List Float → DiscountCurve
bootstrapped tenors pars = curve_of tenors (from_par_rates tenors pars)
