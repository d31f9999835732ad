-- `swaps::discount_each::discount_factor_at_each` meets its contract: the discount factors of a curve of its kind. Assumes nothing.
use mathlib.Core.Path.{◌∙◌}
use Rattle.swaps.proofs.DiscountKind.{each_discount_is}
use Rattle.swaps.proofs.discount_each.discount_factor_at_each.Goals as goal

pub returns : goal.returns
returns c =
    let a = c.args in
    (c.discount_factor_at_each.ensures.0, c.discount_factor_at_each.ensures.1 ∙ each_discount_is a.tenors.now a.zeros.now a.asked.now)
