-- `spread_analytics::curves_each::discount_factor_at_each` meets its contract: the discount factors are those of its kind of curve. Assumes nothing.
use mathlib.Core.Path.{◌∙◌}
use Rattle.spread_analytics.proofs.SpreadKind.{same_discounts_after}
use Rattle.spread_analytics.proofs.curves_each.discount_factor_at_each.Goals as goal

pub returns : goal.returns
returns c =
    let a = c.args in
    let e = c.discount_factor_at_each.ensures in
    (e.0, e.1 ∙ same_discounts_after a.tenors.now a.rates.now a.asked.now)
