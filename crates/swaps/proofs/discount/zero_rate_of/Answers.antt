-- `swaps::discount::zero_rate_of` meets its contract: the rate of a curve of its kind. Assumes nothing.
use mathlib.Core.Path.{◌∙◌}
use Rattle.swaps.proofs.DiscountKind.{rate_is}
use Rattle.swaps.proofs.discount.zero_rate_of.Goals as goal

pub returns : goal.returns
returns c =
    let a = c.args in
    c.rate_of.ensures c.requires ∙ rate_is a.tenors.now a.zeros.now a.t
