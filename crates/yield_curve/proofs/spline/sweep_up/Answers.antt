-- `yield_curve::spline::sweep_up` meets its contract: each place up to the knot in hand holds its mu and its z. Assumes nothing.
use Rattle.std.proofs.Common.{arith}
use Rattle.std.proofs.lemmas.Grind.{common_steps}
use Rattle.yield_curve.proofs.spline.sweep_up.Goals as goal

pub loop-i-preserved : goal.loop-i-preserved
loop-i-preserved c = grind (arith, common_steps)
