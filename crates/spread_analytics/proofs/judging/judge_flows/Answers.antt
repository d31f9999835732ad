-- `spread_analytics::judging::judge_flows` meets its contract: line 9 is asked where line 7 accepts. Assumes nothing.
use mathlib.Core.Path.{sym, ap, ◌∙◌}
use mathlib.Core.List.{[], ◌∷◌}
use Rattle.refusals.proofs.LaterLines.{refused_first, accepted_first}
use Rattle.spread_analytics.proofs.SpreadVerdict.{times_line, amounts_line, times_line_lem, at_most_1200}
use native.Mathlib.Omega.{arith}
use Rattle.spread_analytics.proofs.judging.judge_flows.Goals as goal
use Rattle.refusals.specs.Answers.{outcome}

pub judge_items-requires-in-Ok : goal.judge_items-requires-in-Ok
judge_items-requires-in-Ok c = λ e. omega (arith, c.requires, at_most_1200 c.args.times.now [] (sym (ap outcome c.in-Ok.is) ∙ c.judge_items.ensures ∙ times_line_lem c.args.times.now))

pub returns-in-Err : goal.returns-in-Err
returns-in-Err c =
    let a = c.args in
    refused_first (times_line a.times.now ∷ []) (amounts_line a.bad a.amounts.now ∷ []) tt _ (c.judge_items.ensures ∙ times_line_lem a.times.now) _ c.in-Err.is

pub returns-in-Ok : goal.returns-in-Ok
returns-in-Ok c =
    let a = c.args in
    c.judge_items-in-Ok.ensures
    ∙ accepted_first (times_line a.times.now ∷ []) (amounts_line a.bad a.amounts.now ∷ []) tt _ (c.judge_items.ensures ∙ times_line_lem a.times.now) c.in-Ok.is
