-- `elementary::ln::slope_of` meets its contract. Assumes nothing.
use mathlib.Core.Path.{refl}
use Rattle.elementary.specs.Ln.{slope}
use Rattle.elementary.proofs.ln.slope_of.Goals as goal

pub returns : goal.returns
unfolding slope
returns c = refl
