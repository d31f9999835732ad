-- `elementary::exp::size_of` meets its contract: the nearest whole number, and one more where a half was left off. Assumes nothing.
use Rattle.std.proofs.Common.{refl}
use Rattle.elementary.specs.Exp.{below}
use Rattle.elementary.proofs.Multiples.{size_up, size_as_it_is}
use Rattle.elementary.proofs.exp.size_of.Goals as goal

pub returns-then-a-n : goal.returns-then-a-n
unfolding below
returns-then-a-n c = size_up c.args.x c.requires _ refl _ _ c.negated_if-a.ensures c.nearest-n.ensures c.if-a-n.true

pub returns-else-a-n : goal.returns-else-a-n
unfolding below
returns-else-a-n c = size_as_it_is c.args.x c.requires _ refl _ _ c.negated_if-a.ensures c.nearest-n.ensures c.if-a-n.false
