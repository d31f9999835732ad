-- `swaps::knots::date` meets its contract. Assumes nothing.
use mathlib.Core.Path.{◌∙◌}
use Rattle.swaps.specs.Bootstrap.{date}
use Rattle.swaps.proofs.Coupons.{later_date}
use Rattle.swaps.proofs.knots.date.Goals as goal

pub returns-then-k-eq0 : goal.returns-then-k-eq0
unfolding date
returns-then-k-eq0 c = rw c.if-k-eq0.true

pub returns-else-k-eq0 : goal.returns-else-k-eq0
returns-else-k-eq0 c = c.lower_to.ensures ∙ later_date _ _ c.if-k-eq0.false
