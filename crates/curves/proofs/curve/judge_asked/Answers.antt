-- `curves::curve::judge_asked` meets its contract: line 7 is asked where the curve is accepted. Assumes nothing.
use Rattle.std.proofs.Common.{sym, ap, ◌∙◌}
use Rattle.refusals.specs.Answers.{outcome}
use Rattle.refusals.proofs.Verdicts.{handed_on}
use Rattle.curves.proofs.CurveLines.{refused_by_curve}
use Rattle.curves.proofs.curve.judge_asked.Goals as goal

pub returns-in_err-judge_curve : goal.returns-in_err-judge_curve
returns-in_err-judge_curve c =
    let a = c.args in
    ap outcome (handed_on _ c.from_residual.ensures.1) ∙ refused_by_curve a.times.now a.rates.now 7 a.bad _ _ (sym (ap outcome c.in_err-judge_curve.was) ∙ c.judge_curve.ensures)
