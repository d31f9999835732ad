-- `spread_analytics::flows::flow_coupon` meets its contract. Assumes nothing.
use Rattle.spread_analytics.proofs.flows.flow_coupon.Goals as goal

pub returns : goal.returns
returns c = rw c.per_year.ensures
