-- `swaps::judging::judge_terms` meets its contract: the three tests are lines 7, 8 and 9, in that order. Assumes nothing.
use mathlib.Core.Path.{sym, ◌∙◌}
use Rattle.refusals.proofs.Verdicts.{refused_as}
use Rattle.refusals.proofs.OneCause.{caused, clear, all_clear}
use Rattle.swaps.proofs.judging.judge_terms.Goals as goal

pub returns-then-line7 : goal.returns-then-line7
returns-then-line7 c = refused_as 7 _ _ c.refuse.ensures (caused tt 7 _ _ c.if-line7.true)

pub returns-then-line8 : goal.returns-then-line8
returns-then-line8 c = refused_as 8 _ _ c.refuse-then-line8.ensures (caused tt 8 _ _ c.if-line8.true ∙ clear tt 7 _ _ c.if-line7.false)

pub returns-then-bad_number : goal.returns-then-bad_number
returns-then-bad_number c =
    refused_as 9 _ _ c.refuse-then-bad_number.ensures
    (caused tt 9 _ _ (sym c.bad_number.ensures ∙ c.if-bad_number.true) ∙ clear tt 8 _ _ c.if-line8.false ∙ clear tt 7 _ _ c.if-line7.false)

pub returns : goal.returns
returns c = all_clear tt 9 _ (sym c.bad_number.ensures ∙ c.if-bad_number.false) ∙ clear tt 8 _ _ c.if-line8.false ∙ clear tt 7 _ _ c.if-line7.false
