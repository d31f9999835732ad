-- `elementary::power::by_ln` meets its contract. Assumes nothing.
use Rattle.elementary.specs.Power.{by_ln}
use Rattle.elementary.proofs.power.by_ln.Goals as goal

pub returns-then-x : goal.returns-then-x
unfolding by_ln
returns-then-x c = rw c.if-x.true

pub returns-else-x : goal.returns-else-x
unfolding by_ln
returns-else-x c = rw (c.if-x.false, c.exp.ensures, c.ln.ensures)
