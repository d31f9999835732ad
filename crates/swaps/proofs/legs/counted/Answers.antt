-- `swaps::legs::counted` meets its contract. Assumes nothing.
use Rattle.swaps.proofs.legs.counted.Goals as goal

pub returns-then-part : goal.returns-then-part
returns-then-part c = rw c.if-part.true

pub returns-else-part : goal.returns-else-part
returns-else-part c = rw c.if-part.false
