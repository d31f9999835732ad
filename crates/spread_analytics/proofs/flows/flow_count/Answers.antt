-- `spread_analytics::flows::flow_count` meets its contract. Assumes nothing.
use Rattle.spread_analytics.proofs.flows.flow_count.Goals as goal

pub returns : goal.returns
returns c = rw (c.nearest_whole.ensures, c.per_year.ensures)
