-- `swaps::discount_each::rate_at_each` meets its contract: the zero rates of a curve of its kind. Assumes nothing.
use mathlib.Core.Path.{◌∙◌}
use Rattle.swaps.proofs.DiscountKind.{each_rate_is}
use Rattle.swaps.proofs.discount_each.rate_at_each.Goals as goal

pub returns : goal.returns
returns c =
    let a = c.args in
    (c.rate_at_each.ensures.0, c.rate_at_each.ensures.1 ∙ each_rate_is a.tenors.now a.zeros.now a.asked.now)
