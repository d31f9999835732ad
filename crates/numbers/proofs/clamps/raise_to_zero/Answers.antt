-- `numbers::clamps::raise_to_zero` meets its contract: each arm's test picks the case. Assumes nothing.
use Rattle.numbers.proofs.clamps.raise_to_zero.Goals as goal

pub returns-then-x : goal.returns-then-x
returns-then-x c = rw c.if-x.true

pub returns-else-x : goal.returns-else-x
returns-else-x c = rw c.if-x.false
