-- `curves::halving::segment` meets its contract: each turn is a turn of the one lane. Assumes nothing.
use Rattle.curves.proofs.Halvings.{lane_end}
use Rattle.curves.proofs.halving.segment.Goals as goal

pub returns : goal.returns
returns g c = λ rises. lane_end _ _ _ _ _ c.loop-count-test.false c.loop-count.invariant rises
