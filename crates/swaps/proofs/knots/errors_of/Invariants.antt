-- `swaps::knots::errors_of` meets its contract: the sums of the settled coupons are carried on to the last date. Assumes nothing.
use Rattle.std.proofs.Common.{◌≡◌, map}
use Rattle.swaps.specs.inner.Knots.{sum_to}
use Rattle.swaps.proofs.knots.errors_of.Given as goal

abbrev pub invariant-loop-k : goal.invariant-loop-k
invariant-loop-k l = l.sums ≡ map (sum_to l.tenors l.earlier l.knot l.k) l.rates
