-- `numbers::clamps::lower_to` meets its contract: each arm's test picks the case. Assumes nothing.
use Rattle.numbers.proofs.clamps.lower_to.Goals as goal

pub returns-then-p-b : goal.returns-then-p-b
returns-then-p-b c = rw c.if-p-b.true

pub returns-else-p-b : goal.returns-else-p-b
returns-else-p-b c = rw c.if-p-b.false
