-- `curves::each::judge_each` meets its contract: line 7 is asked where the curve is accepted. Assumes nothing.
use Rattle.std.proofs.Common.{sym, ap, ◌∙◌, arith}
use Rattle.refusals.specs.Answers.{outcome}
use Rattle.refusals.proofs.Placing.{refused_early, decided_late}
use Rattle.refusals.proofs.Verdicts.{handed_on}
use Rattle.curves.specs.Curve.{curve_lines}
use Rattle.curves.specs.Lists.{each_outcome}
use Rattle.curves.proofs.each.judge_each.Goals as goal

pub returns-in_err-judge_curve : goal.returns-in_err-judge_curve
unfolding each_outcome
returns-in_err-judge_curve c =
    let a = c.args in
    ap outcome (handed_on _ c.from_residual.ensures.1)
    ∙ refused_early (curve_lines a.times.now a.rates.now) _ _ _ (omega arith) (sym (ap outcome c.in_err-judge_curve.was) ∙ c.judge_curve.ensures)

pub returns : goal.returns
unfolding each_outcome
returns c =
    let a = c.args in
    c.judge_times.ensures ∙ decided_late (curve_lines a.times.now a.rates.now) _ (sym (ap outcome c.in_ok-judge_curve.was) ∙ c.judge_curve.ensures)
