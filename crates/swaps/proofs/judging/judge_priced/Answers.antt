-- `swaps::judging::judge_priced` meets its contract: the notional's line, then those of the curve, then those of the terms. Assumes nothing.
use mathlib.Core.Path.{sym, ◌∙◌}
use Rattle.refusals.proofs.Verdicts.{refused_as}
use Rattle.refusals.proofs.OneCause.{caused, clear}
use Rattle.refusals.proofs.LaterLines.{refused_first, accepted_first}
use Rattle.swaps.proofs.judging.judge_priced.Goals as goal

pub returns-then-bad_amount : goal.returns-then-bad_amount
returns-then-bad_amount c = refused_as 1 _ _ c.refuse.ensures (caused tt 1 _ _ (sym c.bad_amount.ensures ∙ c.if-bad_amount.true))

pub returns-in-Err : goal.returns-in-Err
returns-in-Err c =
    refused_first _ _ tt _ c.judge_curve.ensures _ c.in-Err.is
    ∙ clear tt 1 _ _ (sym c.bad_amount.ensures ∙ c.if-bad_amount.false)

pub returns-in-Ok : goal.returns-in-Ok
returns-in-Ok c =
    c.judge_terms.ensures
    ∙ accepted_first _ _ tt _ c.judge_curve.ensures c.in-Ok.is
    ∙ clear tt 1 _ _ (sym c.bad_amount.ensures ∙ c.if-bad_amount.false)
