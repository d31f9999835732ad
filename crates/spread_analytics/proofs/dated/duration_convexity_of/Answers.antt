-- `spread_analytics::dated::duration_convexity_of` meets its contract: too many flows are refused, and else the core is asked of what was gathered. Assumes nothing.
use mathlib.Core.Bool.{false}
use Rattle.refusals.proofs.Verdicts.{handed_on}
use Rattle.spread_analytics.specs.Spread.{duration_convexity}
use Rattle.spread_analytics.proofs.TooMany.{refused_for_flows}
use Rattle.spread_analytics.proofs.dated.duration_convexity_of.Goals as goal

pub returns-in_err-judge_count : goal.returns-in_err-judge_count
unfolding duration_convexity
returns-in_err-judge_count c =
    let a = c.args in
    rw (handed_on _ c.from_residual.ensures.1) (refused_for_flows a.flows.now a.tenors.now a.rates.now false _ _ c.in_err-judge_count.ensures.many)
