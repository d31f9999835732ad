-- `swaps::bootstrap::judge_each` meets its contract: what line 6 says of all the knots is what it says from the knot in hand on. Assumes nothing.
use Rattle.std.specs.Float.Ieee.{neg}
use Rattle.swaps.proofs.ParLines.{at_start}
use Rattle.swaps.proofs.bootstrap.judge_each.Goals as goal

pub loop-i-init : goal.loop-i-init
unfolding neg
loop-i-init c = rw c.infinity-before.ensures (at_start _ _)
