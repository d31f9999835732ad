-- `elementary::exp::exp_one_by_one` meets its contract: the numbers passed are done, the others as they were. Assumes nothing.
use Rattle.std.proofs.Common.{arith}
use Rattle.std.proofs.lemmas.Grind.{common_steps}
use Rattle.std.proofs.lemmas.List.Edits.{map_over_more}
use Rattle.elementary.specs.Exp.{exp}
use Rattle.elementary.proofs.exp.exp_one_by_one.Goals as goal

pub loop-x-preserved : goal.loop-x-preserved
loop-x-preserved c = grind (arith, common_steps, map_over_more exp)
