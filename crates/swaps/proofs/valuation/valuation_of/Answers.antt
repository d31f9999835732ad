-- `swaps::valuation::valuation_of` meets its contract. Assumes nothing.
use mathlib.Core.Path.{◌∙◌}
use Rattle.swaps.proofs.Values.{net_is, par_is, duration_is, valuation_is}
use Rattle.swaps.specs.Periods.{terms_of}
use Rattle.swaps.proofs.valuation.valuation_of.Goals as goal

pub returns : goal.returns
returns c =
    let a = c.args in
    let t = terms_of a.swap in
    let tenors = a.tenors.now in
    let zeros = a.zeros.now in
    let base = c.legs_with_bump-both.ensures.0 in
    valuation_is t tenors zeros a.receives_fixed (c.net-npv.ensures ∙ net_is t tenors zeros _ base a.receives_fixed)
    (c.net.ensures ∙ net_is t tenors _ _ c.legs_with_bump-both.ensures.1 a.receives_fixed) base.fixed_is base.floating_is (c.par_of.ensures ∙ par_is t tenors zeros _ base)
    (c.duration_of.ensures ∙ duration_is t tenors zeros _ base)
