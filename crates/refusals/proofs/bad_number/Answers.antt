-- `refusals::bad_number` meets its contract. Assumes nothing.
use mathlib.Core.Path.{ap}
use mathlib.Core.Bool.{not}
use Rattle.refusals.specs.Table.{bad_number}
use Rattle.refusals.proofs.bad_number.Goals as goal

pub returns : goal.returns
unfolding bad_number
returns c = ap not c.is_finite.ensures
