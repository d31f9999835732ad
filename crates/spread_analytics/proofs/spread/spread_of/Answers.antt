-- `spread_analytics::spread::spread_of` meets its contract: the errors at the two ends decide. Assumes nothing.
use mathlib.Core.Path.{ap}
use Rattle.refusals.specs.Outcome.{accepted}
use Rattle.spread_analytics.proofs.Halvings.{at_an_end, between_the_ends}
use Rattle.spread_analytics.proofs.spread.spread_of.Goals as goal

pub returns-then-low-high : goal.returns-then-low-high
returns-then-low-high c =
    let a = c.args in
    let low = c.error_at-low.ensures _ _ c.keep_rates.ensures in
    let high = c.error_at-high.ensures _ _ c.keep_rates.ensures in
    ap accepted (at_an_end a.times.now a.amounts.now a.tenors.now a.rates.now a.market _ _ low high c.if-low-high.true _ c.nearer_end.ensures)

pub returns : goal.returns
returns c =
    let a = c.args in
    let low = c.error_at-low.ensures _ _ c.keep_rates.ensures in
    let high = c.error_at-high.ensures _ _ c.keep_rates.ensures in
    ap accepted (between_the_ends a.times.now a.amounts.now a.tenors.now a.rates.now a.market _ _ low high c.if-low-high.false _ (c.spread_within.ensures _ _ c.keep_rates.ensures low))
