-- `spread_analytics::spread::duration_convexity` meets its contract: the verdict on the flows and the curve is its answer's. Assumes nothing.
use mathlib.Core.Path.{ap, ◌∙◌}
use mathlib.Core.Bool.{false}
use Rattle.refusals.specs.Outcome.{accepted}
use Rattle.refusals.proofs.Verdicts.{refused_by, accepted_by}
use Rattle.spread_analytics.specs.Spread.{duration_convexity}
use Rattle.spread_analytics.proofs.SpreadVerdict.{flows_listed}
use Rattle.spread_analytics.proofs.spread.duration_convexity.Goals as goal

pub sensitivity_of-requires : goal.sensitivity_of-requires
sensitivity_of-requires c =
    let a = c.args in
    let known = flows_listed a.times.now a.amounts.now a.tenors.now a.rates.now false _ c.in-Ok.is c.judge_spread.ensures in
    (known.0, known.2)

pub returns-in-Err : goal.returns-in-Err
unfolding duration_convexity
returns-in-Err c = refused_by _ _ _ _ c.in-Err.is c.judge_spread.ensures

pub returns-in-Ok : goal.returns-in-Ok
unfolding duration_convexity
returns-in-Ok c = ap accepted c.sensitivity_of.ensures ∙ accepted_by _ _ _ c.in-Ok.is c.judge_spread.ensures
