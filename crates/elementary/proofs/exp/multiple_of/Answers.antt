-- `elementary::exp::multiple_of` meets its contract. Assumes nothing.
use Rattle.elementary.specs.Exp.{below}
use Rattle.elementary.proofs.exp.multiple_of.Goals as goal

pub returns : goal.returns
unfolding below
returns c = rw (c.negated_if.ensures, c.size_of.ensures)
