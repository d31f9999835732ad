-- `swaps::periods::payments` meets its contract. Assumes nothing.
use mathlib.Core.Path.{◌∙◌}
use Rattle.swaps.specs.Swap.{payments}
use Rattle.swaps.proofs.periods.payments.Goals as goal

pub returns : goal.returns
unfolding payments
returns c = c.nearest_whole.ensures ∙ rw c.per_year.ensures
