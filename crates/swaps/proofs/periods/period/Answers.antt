-- `swaps::periods::period` meets its contract. Assumes nothing.
use Rattle.swaps.specs.Swap.{period}
use Rattle.swaps.proofs.periods.period.Goals as goal

pub returns : goal.returns
unfolding period
returns c = rw c.per_year.ensures
