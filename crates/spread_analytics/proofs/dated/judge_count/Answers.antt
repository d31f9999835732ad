-- `spread_analytics::dated::judge_count` meets its contract: the curve's refusal comes before line 7. Assumes nothing.
use Rattle.std.proofs.Common.{◌≡◌, ◌<◌, sym, ap, ◌∙◌, arith}
use Rattle.refusals.specs.Outcome.{Outcome, refused}
use Rattle.refusals.proofs.Judging.{followed}
use Rattle.refusals.proofs.Verdicts.{handed_on, refused_by, accepted_by, refused_as}
use Rattle.curves.specs.Curve.{curve_lines}
use Rattle.spread_analytics.proofs.TooMany.{too_many}
use Rattle.spread_analytics.proofs.dated.judge_count.Goals as goal

abbrev else_7 : Outcome Unit → Outcome Unit
else_7 o = followed o (refused 7 0)

pub returns-in_err-judge_curve-clause-many : goal.returns-in_err-judge_curve-clause-many
returns-in_err-judge_curve-clause-many c =
    let a = c.args in
    let many = c.if-count-le1200.false in
    rw (handed_on _ c.from_residual.ensures.1) (λ times amounts bad n m.
    ap else_7 (refused_by (curve_lines a.tenors.now a.rates.now) tt _ _ c.in_err-judge_curve.was c.judge_curve.ensures)
    ∙ sym (too_many times amounts a.tenors.now a.rates.now bad tt (n ∙ sym m) (omega arith)))

pub returns-clause-many : goal.returns-clause-many
returns-clause-many c =
    let a = c.args in
    let many = c.if-count-le1200.false in
    λ times amounts bad n m.
    refused_as 7 _ _ c.refuse.ensures
    (ap else_7 (accepted_by (curve_lines a.tenors.now a.rates.now) tt _ c.in_ok-judge_curve.was c.judge_curve.ensures)
    ∙ sym (too_many times amounts a.tenors.now a.rates.now bad tt (n ∙ sym m) (omega arith)))
