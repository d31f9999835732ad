-- `swaps::knots::half_of` meets its contract: up where the error in the middle is above 0. Assumes nothing.
use mathlib.Core.Path.{refl}
use Rattle.swaps.proofs.knots.half_of.Goals as goal

pub returns-then-missed : goal.returns-then-missed
returns-then-missed c = rw c.if-missed.true (c.middle-mid.ensures, refl)

pub returns : goal.returns
returns c = rw c.if-missed.false (refl, c.middle-mid.ensures)
