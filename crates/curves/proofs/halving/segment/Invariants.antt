-- `curves::halving::segment` meets its contract: each turn is a turn of the one lane. Assumes nothing.
use Rattle.curves.proofs.Halvings.{Lane}
use Rattle.curves.proofs.halving.segment.Given as goal

abbrev pub invariant-loop-count : goal.invariant-loop-count
invariant-loop-count g l = Lane g.S.Serving.rule l.times l.count l.t l.base

abbrev pub decreases-loop-count : goal.decreases-loop-count
decreases-loop-count g l = l.count
