-- `spread_analytics::spread::sensitivity_of` meets its contract: the sums are the definition's. Assumes nothing.
use Rattle.spread_analytics.proofs.KeptRates.{no_sensitivity, sensitivity_is}
use Rattle.spread_analytics.proofs.spread.sensitivity_of.Goals as goal

pub returns-then-absolute_value : goal.returns-then-absolute_value
returns-then-absolute_value c =
    let a = c.args in
    no_sensitivity a.times.now a.amounts.now a.tenors.now a.rates.now _ _ _ c.sums_over-sums.ensures.worth_value c.absolute_value.ensures c.if-absolute_value.true

pub returns : goal.returns
returns c =
    let a = c.args in
    sensitivity_is a.times.now a.amounts.now a.tenors.now a.rates.now _ _ _ c.sums_over-sums.ensures.worth_value c.absolute_value.ensures c.if-absolute_value.false _ _ c.sums_over-sums.ensures.timed_value c.sums_over-sums.ensures.squared_value
