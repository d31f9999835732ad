-- `swaps::bootstrap::judge_pars` meets its contract: the tests are lines 4, 5 and 6, in that order. Assumes nothing.
use mathlib.Core.Path.{sym, ◌∙◌}
use Rattle.refusals.proofs.Verdicts.{refused_as}
use Rattle.curves.proofs.CurveLines.{at_most_120}
use Rattle.swaps.proofs.ParLines.{refused_4, refused_5, by_line_6}
use Rattle.swaps.proofs.bootstrap.judge_pars.Goals as goal

pub returns-then-tenors-pars : goal.returns-then-tenors-pars
returns-then-tenors-pars c =
    let a = c.args in
    refused_as 4 _ _ c.refuse.ensures (refused_4 a.tenors.now a.pars.now c.if-tenors-pars.true)

pub returns-then-bad_knot_count : goal.returns-then-bad_knot_count
returns-then-bad_knot_count c =
    let a = c.args in
    refused_as 5 _ _ c.refuse-then-bad_knot_count.ensures (refused_5 a.tenors.now a.pars.now c.if-tenors-pars.false (sym c.bad_knot_count.ensures ∙ c.if-bad_knot_count.true))

pub judge_each-requires : goal.judge_each-requires
judge_each-requires c = (c.if-tenors-pars.false, at_most_120 _ (sym c.bad_knot_count.ensures ∙ c.if-bad_knot_count.false))

pub returns : goal.returns
returns c =
    let a = c.args in
    c.judge_each.ensures ∙ by_line_6 a.tenors.now a.pars.now c.if-tenors-pars.false (sym c.bad_knot_count.ensures ∙ c.if-bad_knot_count.false)
