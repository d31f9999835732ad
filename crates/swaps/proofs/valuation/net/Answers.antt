-- `swaps::valuation::net` meets its contract. Assumes nothing.
use Rattle.swaps.proofs.valuation.net.Goals as goal

pub returns-then-receives_fixed : goal.returns-then-receives_fixed
returns-then-receives_fixed c = rw c.if-receives_fixed.true

pub returns-else-receives_fixed : goal.returns-else-receives_fixed
returns-else-receives_fixed c = rw c.if-receives_fixed.false
