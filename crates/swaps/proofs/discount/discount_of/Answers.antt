-- `swaps::discount::discount_of` meets its contract: the discount factor of a curve of its kind. Assumes nothing.
use mathlib.Core.Path.{◌∙◌}
use Rattle.swaps.proofs.DiscountKind.{discount_is}
use Rattle.swaps.proofs.discount.discount_of.Goals as goal

pub returns : goal.returns
returns c =
    let a = c.args in
    c.discount_of.ensures c.requires ∙ discount_is a.tenors.now a.zeros.now a.t
