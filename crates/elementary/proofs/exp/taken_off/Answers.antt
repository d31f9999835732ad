-- `elementary::exp::taken_off` meets its contract. Assumes nothing.
use mathlib.Core.Path.{refl}
use Rattle.elementary.specs.Exp.{reduced}
use Rattle.elementary.proofs.exp.taken_off.Goals as goal

pub returns : goal.returns
unfolding reduced
returns c = refl
