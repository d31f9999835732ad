-- `spread_analytics::rate_curves::discount_of` meets its contract: it is the discount factor of its kind of curve. Assumes nothing.
use mathlib.Core.Path.{◌∙◌}
use Rattle.spread_analytics.proofs.SpreadKind.{same_discount}
use Rattle.spread_analytics.proofs.rate_curves.discount_of.Goals as goal

pub returns : goal.returns
returns c = let a = c.args in c.discount_of.ensures c.requires ∙ same_discount a.tenors.now a.rates.now a.t
