-- `spread_analytics::rate_curves::forward_rate` meets its contract: the verdict on the curve is its answer's. Assumes nothing.
use mathlib.Core.Path.{ap, ◌∙◌}
use Rattle.refusals.specs.Outcome.{accepted}
use Rattle.refusals.proofs.Verdicts.{refused_by, accepted_by}
use Rattle.curves.proofs.Listing.{accepted_rises}
use Rattle.spread_analytics.specs.Curves.{forward_rate}
use Rattle.spread_analytics.proofs.LinesInParts.{by_cause}
use Rattle.spread_analytics.proofs.rate_curves.forward_rate.Goals as goal

pub forward_of-requires : goal.forward_of-requires
forward_of-requires c =
    let a = c.args in
    accepted_rises a.tenors.now a.rates.now _ _ c.judge_asked.ensures c.in-Ok.is

pub returns-in-Err : goal.returns-in-Err
unfolding forward_rate
returns-in-Err c =
    let a = c.args in
    refused_by _ _ _ _ c.in-Err.is (by_cause a.tenors.now a.rates.now c.bad_times.ensures c.judge_asked.ensures)

pub returns-in-Ok : goal.returns-in-Ok
unfolding forward_rate
returns-in-Ok c =
    let a = c.args in
    ap accepted c.forward_of.ensures ∙ accepted_by _ _ _ c.in-Ok.is (by_cause a.tenors.now a.rates.now c.bad_times.ensures c.judge_asked.ensures)
