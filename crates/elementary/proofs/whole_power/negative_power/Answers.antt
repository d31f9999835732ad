-- `elementary::whole_power::negative_power` meets its contract. Assumes nothing.
use Rattle.elementary.specs.WholePower.{negative_power}
use Rattle.elementary.proofs.whole_power.negative_power.Goals as goal

pub returns : goal.returns
unfolding negative_power
returns c = rw c.whole_power.ensures
