-- `yield_curve::spline::bends_on` meets its contract: down to the knot in hand, c is that knot's. Assumes nothing.
use Rattle.std.proofs.Common.{◌≡◌, ◌<◌}
use Rattle.yield_curve.specs.Spline.{c_at}
use Rattle.yield_curve.proofs.spline.bends_on.Given as goal

abbrev pub invariant-loop-k : goal.invariant-loop-k
invariant-loop-k l = (l.i < l.k) × (l.c ≡ c_at l.times l.rates l.k)
