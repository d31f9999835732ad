-- `elementary::exp::exp_blocks` meets its contract: the blocks passed are done, the others as they were. Assumes nothing.
use Rattle.std.proofs.Common.{arith}
use Rattle.elementary.specs.Exp.{exp}
use Rattle.elementary.proofs.InPlace.{map_over_part}
use Rattle.elementary.proofs.exp.exp_blocks.Goals as goal

pub loop-k-preserved : goal.loop-k-preserved
loop-k-preserved c = map_over_part exp _ _ _ _ _ _ (omega arith) (omega arith) (omega arith) c.loop-k.invariant c.exp_block.ensures
