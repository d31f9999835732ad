-- `swaps::legs::add_on` meets its contract: the times, in a room of their own, give way to their discount factors. Assumes nothing.
use Rattle.std.proofs.Common.{arith}
use Rattle.std.proofs.lemmas.Grind.{common_steps}
use Rattle.swaps.specs.Periods.{terms_of}
use Rattle.swaps.proofs.DiscountKind.{factors_of}
use Rattle.swaps.proofs.legs.add_on.Goals as goal

pub returns : goal.returns
returns c =
    let a = c.args in
    λ first listed before.
    c.add_payments.ensures (terms_of a.swap) a.tenors.now a.zeros.now first c.notional.ensures c.fixed_rate.ensures listed
    (factors_of a.tenors.now a.zeros.now (terms_of a.swap) first a.times.now a.fractions.now _ _ _ listed (grind (arith, common_steps)) (c.discounts_onward.ensures c.requires.1)) before
