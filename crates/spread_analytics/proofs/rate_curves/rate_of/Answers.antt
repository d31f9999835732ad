-- `spread_analytics::rate_curves::rate_of` meets its contract: it is the rate of its kind of curve. Assumes nothing.
use mathlib.Core.Path.{◌∙◌}
use Rattle.spread_analytics.proofs.SpreadKind.{same_rate}
use Rattle.spread_analytics.proofs.rate_curves.rate_of.Goals as goal

pub returns : goal.returns
returns c = let a = c.args in c.rate_of.ensures c.requires ∙ same_rate a.tenors.now a.rates.now a.t
