-- `spread_analytics::worth::discounted_sum` meets its contract: there are no terms before. Assumes nothing.
use Rattle.curves.proofs.Adding.{from_nothing}
use Rattle.spread_analytics.proofs.worth.discounted_sum.Goals as goal

pub returns : goal.returns
returns c = from_nothing _ _ _ c.discounted_on.ensures
