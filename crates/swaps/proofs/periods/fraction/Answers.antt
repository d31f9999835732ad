-- `swaps::periods::fraction` meets its contract. Assumes nothing.
use mathlib.Core.Path.{ap, ◌∙◌}
use Rattle.swaps.specs.DayCounts.{day_fraction}
use Rattle.swaps.specs.Swap.{fraction}
use Rattle.swaps.proofs.periods.fraction.Goals as goal

pub returns : goal.returns
unfolding fraction
returns c = c.day_count_fraction.ensures ∙ ap (day_fraction c.args.swap.day_count) (c.nearest_whole.ensures ∙ rw c.period.ensures)
