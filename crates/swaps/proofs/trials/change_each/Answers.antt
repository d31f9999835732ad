-- `swaps::trials::change_each` meets its contract: the numbers passed are made of the two at their place. Assumes nothing.
use Rattle.std.proofs.Common.{arith}
use Rattle.swaps.proofs.Eights.{none_made, one_made, all_made}
use Rattle.swaps.proofs.trials.change_each.Goals as goal

pub loop-j-init : goal.loop-j-init
loop-j-init g c = λ f is. none_made f c.args.numbers.now c.args.others

pub loop-j-preserved : goal.loop-j-preserved
loop-j-preserved g c = λ f is. one_made f c.args.numbers.now c.args.others c.loop-j.j _ _ (omega arith) (c.loop-j.invariant f is) (is _ _ _ c.made.ensures)

pub returns : goal.returns
returns g c = λ f is. all_made f c.args.numbers.now c.args.others c.loop-j.j _ (omega arith) (c.loop-j.invariant f is)
