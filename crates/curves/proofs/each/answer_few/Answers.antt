-- `curves::each::answer_few` meets its contract: the front of the room that is answered is the times that are answered. Assumes nothing.
use Rattle.std.proofs.Common.{arith}
use Rattle.std.proofs.lemmas.Grind.{common_steps}
use Rattle.std.proofs.lemmas.List.{take-map}
use Rattle.curves.proofs.each.answer_few.Goals as goal

pub returns : goal.returns
returns c = λ rises. grind (arith, common_steps, take-map)
