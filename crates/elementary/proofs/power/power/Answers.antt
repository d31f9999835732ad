-- `elementary::power::power` meets its contract. Assumes nothing.
use Rattle.elementary.specs.Power.{power_by, power}
use Rattle.elementary.proofs.power.power.Goals as goal

pub returns-then-is_whole : goal.returns-then-is_whole
unfolding power power_by
returns-then-is_whole c = rw (← c.is_whole.ensures, c.if-is_whole.true) c.by_sign.ensures

pub returns-else-is_whole : goal.returns-else-is_whole
unfolding power power_by
returns-else-is_whole c = rw (← c.is_whole.ensures, c.if-is_whole.false) c.by_ln.ensures
