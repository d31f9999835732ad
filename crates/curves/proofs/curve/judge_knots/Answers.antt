-- `curves::curve::judge_knots` meets its contract: what line 6 says of all the knots is what it says from the knot in hand on. Assumes nothing.
use lib.Ieee.{of_bits}
use Rattle.curves.proofs.KnotLine.{at_start}
use Rattle.curves.proofs.curve.judge_knots.Goals as goal

pub loop-i-init : goal.loop-i-init
unfolding of_bits
loop-i-init c = at_start _ _
