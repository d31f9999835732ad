-- `elementary::powers::sixteenth_power` meets its contract. Assumes nothing.
use mathlib.Core.Path.{refl}
use Rattle.elementary.specs.inner.Squared.{squared}
use Rattle.elementary.proofs.powers.sixteenth_power.Goals as goal

pub returns : goal.returns
unfolding squared
returns c = refl
