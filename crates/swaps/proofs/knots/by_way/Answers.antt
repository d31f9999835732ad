-- `swaps::knots::by_way` meets its contract. Assumes nothing.
use Rattle.swaps.proofs.knots.by_way.Goals as goal

pub returns-then-error : goal.returns-then-error
returns-then-error c = rw c.if-error.true

pub returns-else-error : goal.returns-else-error
returns-else-error c = rw c.if-error.false
