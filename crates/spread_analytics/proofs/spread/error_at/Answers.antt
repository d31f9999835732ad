-- `spread_analytics::spread::error_at` meets its contract. Assumes nothing.
use Rattle.spread_analytics.specs.Spread.{error_at}
use Rattle.spread_analytics.proofs.spread.error_at.Goals as goal

pub returns : goal.returns
unfolding error_at
returns c = λ tenors rates k. rw (c.worth_at.ensures tenors rates k)
