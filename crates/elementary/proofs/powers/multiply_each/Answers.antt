-- `elementary::powers::multiply_each` meets its contract: the numbers passed are multiplied, the others as they were. Assumes nothing.
use Rattle.std.proofs.Common.{arith}
use Rattle.std.proofs.lemmas.Grind.{common_steps}
use Rattle.std.proofs.lemmas.List.Edits.{map_over_more}
use Rattle.elementary.proofs.powers.multiply_each.Invariants.{times}
use Rattle.elementary.proofs.powers.multiply_each.Goals as goal

pub loop-x-preserved : goal.loop-x-preserved
loop-x-preserved c = grind (arith, common_steps, map_over_more (times c.args.by))
