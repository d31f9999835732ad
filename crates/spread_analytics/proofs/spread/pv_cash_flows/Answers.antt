-- `spread_analytics::spread::pv_cash_flows` meets its contract: the verdict on the flows and the curve is its answer's. Assumes nothing.
use mathlib.Core.Path.{ap, ◌∙◌}
use mathlib.Core.Bool.{false}
use Rattle.refusals.specs.Outcome.{accepted}
use Rattle.refusals.proofs.Verdicts.{refused_by, accepted_by}
use Rattle.spread_analytics.specs.Spread.{pv_cash_flows}
use Rattle.spread_analytics.proofs.SpreadVerdict.{flows_listed}
use Rattle.spread_analytics.proofs.spread.pv_cash_flows.Goals as goal

pub worth_of-requires : goal.worth_of-requires
worth_of-requires c =
    let a = c.args in
    let known = flows_listed a.times.now a.amounts.now a.tenors.now a.rates.now false _ c.in-Ok.is c.judge_spread.ensures in
    (known.0, known.2)

pub returns-in-Err : goal.returns-in-Err
unfolding pv_cash_flows
returns-in-Err c = refused_by _ _ _ _ c.in-Err.is c.judge_spread.ensures

pub returns-in-Ok : goal.returns-in-Ok
unfolding pv_cash_flows
returns-in-Ok c = ap accepted c.worth_of.ensures ∙ accepted_by _ _ _ c.in-Ok.is c.judge_spread.ensures
