-- `spread_analytics::rate_curves::swap_rate_at` meets its contract: the verdict on the curve and on what is asked decides which answer it is. Assumes nothing.
use Rattle.curves.proofs.CurveLines.{answer_refused, answer_given}
use Rattle.curves.proofs.Listing.{accepted_rises}
use Rattle.spread_analytics.specs.Curves.{rate_at}
use Rattle.spread_analytics.proofs.rate_curves.swap_rate_at.Goals as goal

pub rate_of-requires : goal.rate_of-requires
rate_of-requires c =
    let a = c.args in
    accepted_rises a.tenors.now a.rates.now _ _ c.judge_asked.ensures c.in-Ok.is

pub returns-in-Err : goal.returns-in-Err
unfolding rate_at
returns-in-Err c =
    let a = c.args in
    answer_refused a.tenors.now a.rates.now _ _ _ _ c.bad_time.ensures c.judge_asked.ensures _ c.in-Err.is

pub returns-in-Ok : goal.returns-in-Ok
unfolding rate_at
returns-in-Ok c =
    let a = c.args in
    answer_given a.tenors.now a.rates.now _ _ _ _ c.bad_time.ensures c.judge_asked.ensures _ c.rate_of.ensures c.in-Ok.is
