-- `elementary::powers::first_sixteen` meets its contract: each product is the definition's, computed. Assumes nothing.
use mathlib.Core.Path.{refl}
use Rattle.elementary.specs.WholePower.{turns, whole_power}
use Rattle.elementary.specs.Powers.{powers_from}
use Rattle.elementary.proofs.powers.first_sixteen.Goals as goal

pub returns : goal.returns
unfolding powers_from whole_power turns
returns c = refl
