-- `pool::months::add_above` meets its contract: what is not above 0 leaves the month as it lies. Assumes nothing.
use mathlib.Core.Path.{sym}
use Rattle.pool.proofs.Walks.{same_month}
use Rattle.pool.proofs.months.add_above.Goals as goal

pub returns-then-balance : goal.returns-then-balance
returns-then-balance c = rw c.if-balance.true c.add_month.ensures

pub returns-else-balance : goal.returns-else-balance
returns-else-balance c = rw c.if-balance.false (sym (same_month _ _))
