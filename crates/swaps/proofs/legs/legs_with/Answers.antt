-- `swaps::legs::legs_with` meets its contract: the notional at the end is added to the sums. Assumes nothing.
use Rattle.swaps.proofs.PaymentSums.{legs_are}
use Rattle.swaps.specs.Periods.{terms_of}
use Rattle.swaps.proofs.legs.legs_with.Goals as goal

pub returns : goal.returns
returns c =
    let a = c.args in
    legs_are (terms_of a.swap) a.tenors.now a.zeros.now a.sums c.requires.2 c.notional-principal.result c.end-time.result c.discount_of-last.result
    c.notional-principal.ensures c.end-time.ensures c.discount_of-last.ensures
