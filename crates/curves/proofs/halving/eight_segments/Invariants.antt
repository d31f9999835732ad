-- `curves::halving::eight_segments` meets its contract: each turn of the outer loop is a turn of all eight lanes. Assumes nothing.
use Rattle.std.proofs.Common.{◌≡◌, length}
use Rattle.curves.proofs.Halvings.{Lanes, Partly}
use Rattle.curves.proofs.halving.eight_segments.Given as goal

abbrev pub invariant-loop-j : goal.invariant-loop-j
invariant-loop-j g l = (length l.bases ≡ 8) × Partly g.S.Serving.rule l.times l.left l.half l.j l.asked l.bases

abbrev pub invariant-loop-left : goal.invariant-loop-left
invariant-loop-left g l = (length l.bases ≡ 8) × Lanes g.S.Serving.rule l.times l.left l.asked l.bases

abbrev pub decreases-loop-left : goal.decreases-loop-left
decreases-loop-left g l = l.left
