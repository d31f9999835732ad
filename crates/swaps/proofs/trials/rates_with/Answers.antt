-- `swaps::trials::rates_with` meets its contract: the rates in hand stand at the last knot, the same earlier one at any other. Assumes nothing.
use Rattle.swaps.proofs.TriedRates.{each_tried, each_earlier}
use Rattle.swaps.proofs.trials.rates_with.Goals as goal

pub returns-then-i-earlier : goal.returns-then-i-earlier
returns-then-i-earlier c = let a = c.args in each_tried a.earlier.now a.rates a.i c.if-i-earlier.true

pub returns : goal.returns
returns c =
    let a = c.args in
    each_earlier a.earlier.now a.rates a.i c.requires _ c.if-i-earlier.false c.knot_at.ensures
