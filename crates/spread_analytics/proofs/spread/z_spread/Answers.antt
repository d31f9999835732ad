-- `spread_analytics::spread::z_spread` meets its contract: the verdict on the flows, the curve and the price is its answer's. Assumes nothing.
use mathlib.Core.Path.{◌∙◌}
use Rattle.refusals.proofs.Verdicts.{refused_by, accepted_by}
use Rattle.spread_analytics.specs.Spread.{z_spread}
use Rattle.spread_analytics.proofs.SpreadVerdict.{flows_listed, by_price}
use Rattle.spread_analytics.proofs.spread.z_spread.Goals as goal

pub spread_of-requires : goal.spread_of-requires
spread_of-requires c =
    let a = c.args in
    flows_listed a.times.now a.amounts.now a.tenors.now a.rates.now _ _ c.in-Ok.is c.judge_spread.ensures

pub returns-in-Err : goal.returns-in-Err
unfolding z_spread
returns-in-Err c =
    let a = c.args in
    refused_by _ _ _ _ c.in-Err.is (by_price a.times.now a.amounts.now a.tenors.now a.rates.now c.bad_number.ensures c.judge_spread.ensures)

pub returns-in-Ok : goal.returns-in-Ok
unfolding z_spread
returns-in-Ok c =
    let a = c.args in
    c.spread_of.ensures ∙ accepted_by _ _ _ c.in-Ok.is (by_price a.times.now a.amounts.now a.tenors.now a.rates.now c.bad_number.ensures c.judge_spread.ensures)
