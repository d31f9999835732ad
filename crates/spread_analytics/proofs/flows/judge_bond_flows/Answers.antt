-- `spread_analytics::flows::judge_bond_flows` meets its contract: each test is a line's, and 3 has no cause where 7 has one. Assumes nothing.
use mathlib.Core.Path.{sym, ◌∙◌}
use mathlib.Core.Bool.{◌||◌}
use Rattle.refusals.specs.Table.{bad_amount, no_room_in_either, bad_time, too_many_periods, bad_number}
use Rattle.refusals.proofs.Verdicts.{refused_as}
use Rattle.spread_analytics.proofs.BondFlows.{refused_1, refused_3, refused_7, refused_9, accepted_all}
use Rattle.spread_analytics.proofs.flows.judge_bond_flows.Goals as goal

pub returns-then-bad_amount : goal.returns-then-bad_amount
returns-then-bad_amount c =
    let a = c.args in
    refused_as 1 _ _ c.refuse.ensures
    (refused_1 (bad_amount a.face) (bad_time a.tenor || too_many_periods a.count) (no_room_in_either a.count a.times a.amounts) (bad_number a.coupon)
    (sym c.bad_amount.ensures ∙ c.if-bad_amount.true))

pub returns-then-bad_flows : goal.returns-then-bad_flows
returns-then-bad_flows c = refused_as 7 _ _ c.refuse-then-bad_flows.ensures (refused_7 _ _ _ _ (sym c.bad_amount.ensures ∙ c.if-bad_amount.false) (sym c.bad_flows.ensures ∙ c.if-bad_flows.true))

pub returns-then-too_little_room : goal.returns-then-too_little_room
returns-then-too_little_room c =
    refused_as 3 _ _ c.refuse-then-too_little_room.ensures
    (refused_3 _ _ _ _ (sym c.bad_amount.ensures ∙ c.if-bad_amount.false) (sym c.bad_flows.ensures ∙ c.if-bad_flows.false) (sym c.too_little_room.ensures ∙ c.if-too_little_room.true))

pub returns-then-bad_number : goal.returns-then-bad_number
returns-then-bad_number c =
    refused_as 9 _ _ c.refuse-then-bad_number.ensures
    (refused_9 _ _ _ _ (sym c.bad_amount.ensures ∙ c.if-bad_amount.false) (sym c.bad_flows.ensures ∙ c.if-bad_flows.false) (sym c.too_little_room.ensures ∙ c.if-too_little_room.false)
    (sym c.bad_number.ensures ∙ c.if-bad_number.true))

pub returns : goal.returns
returns c =
    accepted_all _ _ _ _ (sym c.bad_amount.ensures ∙ c.if-bad_amount.false) (sym c.bad_flows.ensures ∙ c.if-bad_flows.false) (sym c.too_little_room.ensures ∙ c.if-too_little_room.false)
    (sym c.bad_number.ensures ∙ c.if-bad_number.false)
