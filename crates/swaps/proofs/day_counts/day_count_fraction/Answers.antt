-- `swaps::day_counts::day_count_fraction` meets its contract. Assumes nothing.
use Rattle.swaps.specs.DayCounts.{day_fraction}
use Rattle.swaps.proofs.day_counts.day_count_fraction.Goals as goal

pub returns : goal.returns
unfolding day_fraction
returns c = rw c.year_of.ensures
