-- `spread_analytics::flows::flow_period` meets its contract. Assumes nothing.
use Rattle.spread_analytics.proofs.flows.flow_period.Goals as goal

pub returns : goal.returns
returns c = rw c.per_year.ensures
