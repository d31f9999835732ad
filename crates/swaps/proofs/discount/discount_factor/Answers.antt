-- `swaps::discount::discount_factor` meets its contract: the verdict on the curve and on what is asked decides which answer it is. Assumes nothing.
use Rattle.curves.proofs.CurveLines.{answer_refused, answer_given}
use Rattle.curves.proofs.Listing.{accepted_rises}
use Rattle.swaps.specs.Discount.{discount_factor}
use Rattle.swaps.proofs.discount.discount_factor.Goals as goal

pub discount_of-requires : goal.discount_of-requires
discount_of-requires c =
    let a = c.args in
    accepted_rises a.tenors.now a.zeros.now _ _ c.judge_asked.ensures c.in-Ok.is

pub returns-in-Err : goal.returns-in-Err
unfolding discount_factor
returns-in-Err c =
    let a = c.args in
    answer_refused a.tenors.now a.zeros.now _ _ _ _ c.bad_time.ensures c.judge_asked.ensures _ c.in-Err.is

pub returns-in-Ok : goal.returns-in-Ok
unfolding discount_factor
returns-in-Ok c =
    let a = c.args in
    answer_given a.tenors.now a.zeros.now _ _ _ _ c.bad_time.ensures c.judge_asked.ensures _ c.discount_of.ensures c.in-Ok.is
