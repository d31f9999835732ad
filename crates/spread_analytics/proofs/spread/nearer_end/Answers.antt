-- `spread_analytics::spread::nearer_end` meets its contract: the test picks the end. Assumes nothing.
use mathlib.Core.Path.{sym}
use Rattle.spread_analytics.proofs.spread.nearer_end.Goals as goal

pub returns-then-absolute_value : goal.returns-then-absolute_value
returns-then-absolute_value c = rw (sym c.absolute_value.ensures, sym c.absolute_value-2.ensures, c.if-absolute_value.true)

pub returns-else-absolute_value : goal.returns-else-absolute_value
returns-else-absolute_value c = rw (sym c.absolute_value.ensures, sym c.absolute_value-2.ensures, c.if-absolute_value.false)
