-- `spread_analytics::judging::judge_spread` meets its contract: line 4 of the flows, the lines of the curve, and then those of the flows. Assumes nothing.
use mathlib.Core.Path.{◌∙◌}
use mathlib.Core.List.{[], ◌∷◌}
use Rattle.refusals.proofs.Verdicts.{refused_as}
use Rattle.curves.specs.Curve.{curve_lines}
use Rattle.refusals.proofs.LaterLines.{refused_first, accepted_first}
use Rattle.spread_analytics.proofs.SpreadVerdict.{times_line, amounts_line, refused_4, in_parts}
use Rattle.spread_analytics.proofs.judging.judge_spread.Goals as goal

pub returns-then-times-amounts : goal.returns-then-times-amounts
returns-then-times-amounts c =
    let a = c.args in
    refused_as 4 _ _ c.refuse.ensures (refused_4 a.times.now a.amounts.now a.tenors.now a.rates.now a.bad c.if-times-amounts.true)

pub judge_flows-requires : goal.judge_flows-requires
judge_flows-requires c = c.if-times-amounts.false

pub returns-in-Err : goal.returns-in-Err
returns-in-Err c =
    let a = c.args in
    refused_first (curve_lines a.tenors.now a.rates.now) (times_line a.times.now ∷ amounts_line a.bad a.amounts.now ∷ []) tt _ c.judge_curve.ensures _ c.in-Err.is
    ∙ in_parts a.times.now a.amounts.now a.tenors.now a.rates.now a.bad c.if-times-amounts.false

pub returns-in-Ok : goal.returns-in-Ok
returns-in-Ok c =
    let a = c.args in
    c.judge_flows.ensures
    ∙ accepted_first (curve_lines a.tenors.now a.rates.now) (times_line a.times.now ∷ amounts_line a.bad a.amounts.now ∷ []) tt _ c.judge_curve.ensures c.in-Ok.is
    ∙ in_parts a.times.now a.amounts.now a.tenors.now a.rates.now a.bad c.if-times-amounts.false
