-- `spread_analytics::worth::worth_at` meets its contract: over the kept rates of a curve, the worth is the curve's. Assumes nothing.
use mathlib.Core.Path.{sym, ◌∙◌}
use Rattle.spread_analytics.proofs.KeptRates.{worth_is}
use Rattle.spread_analytics.proofs.worth.worth_at.Goals as goal

pub returns : goal.returns
returns c =
    let a = c.args in
    λ tenors rates k.
    c.discounted_sum.ensures
    ∙ worth_is a.times.now a.amounts.now tenors rates a.kept.now c.put_factors.new.factors _ _ c.from.ensures k c.put_factors.ensures _ (sym c.requires.0)
