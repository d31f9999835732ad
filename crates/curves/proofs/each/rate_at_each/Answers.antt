-- `curves::each::rate_at_each` meets its contract: the verdict decides whether the times give way to their rates. Assumes nothing.
use Rattle.std.proofs.Common.{sym, ap, ◌∙◌}
use Rattle.refusals.specs.Answers.{outcome}
use Rattle.refusals.proofs.Verdicts.{handed_on}
use Rattle.curves.specs.Kinds.{rate_on}
use Rattle.curves.proofs.Listing.{in_rising_order, all_accepted, after_accepted, after_refused}
use Rattle.curves.proofs.each.rate_at_each.Goals as goal

pub returns-in_err-judge_each : goal.returns-in_err-judge_each
returns-in_err-judge_each c =
    let a = c.args in
    let was = c.in_err-judge_each.was in (
      ap outcome (handed_on _ c.from_residual.ensures.1 ∙ sym was) ∙ c.judge_each.ensures,
      after_refused (rate_on a.kind a.times.now a.rates.now) a.times.now a.rates.now a.asked.now _ c.judge_each.ensures _ was,
    )

pub returns : goal.returns
returns c =
    let a = c.args in
    let was = c.in_ok-judge_each.was in
    let answer = rate_on a.kind a.times.now a.rates.now in
    let rises = in_rising_order a.times.now a.rates.now _ (all_accepted answer a.times.now a.rates.now a.asked.now _ c.judge_each.ensures was) in (
      sym (ap outcome was) ∙ c.judge_each.ensures,
      after_accepted answer a.times.now a.rates.now a.asked.now _ c.judge_each.ensures was _ (c.rates_of.ensures rises),
    )
