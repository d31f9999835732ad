-- `curves::each::answer_one_by_one` meets its contract: the times passed have given way to their answers. Assumes nothing.
use Rattle.std.proofs.Common.{arith}
use Rattle.std.proofs.lemmas.Grind.{common_steps}
use Rattle.std.proofs.lemmas.List.Edits.{map_over_more}
use Rattle.curves.specs.inner.Exponents.{answer_on}
use Rattle.curves.proofs.each.answer_one_by_one.Goals as goal

pub loop-t-preserved : goal.loop-t-preserved
unfolding answer_on
loop-t-preserved c = λ rises. grind (arith, common_steps, map_over_more (answer_on c.args.kind c.args.exponents c.args.times.now c.args.rates.now))
