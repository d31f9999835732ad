-- `spread_analytics::flows::bond_cash_flows` meets its contract: a refusal leaves both lists, and else both columns are put. Assumes nothing.
use Rattle.std.proofs.Common.{ℕ, ◌||◌, cond, eqb, pos, length, rules}
use lib.Ieee.{binary64, add, mul, of_int}
use Rattle.refusals.specs.Table.{bad_amount, bad_time, too_many_periods, bad_number}
use Rattle.spread_analytics.proofs.BondFlows.{room_for_all, refused_untouched, accepted_put}
use Rattle.spread_analytics.proofs.flows.bond_cash_flows.Goals as goal

pub put_each-requires-clause-fits : goal.put_each-requires-clause-fits
put_each-requires-clause-fits c =
    let a = c.args in
    let n = c.flow_count-count.result in
    (room_for_all (bad_amount a.face) (bad_time a.tenor || too_many_periods n) (bad_number a.coupon) (length a.times.now) (length a.amounts.now) n _
    c.in-Ok.is c.judge_bond_flows.ensures).0

pub put_each-requires-in-Ok-clause-fits : goal.put_each-requires-in-Ok-clause-fits
put_each-requires-in-Ok-clause-fits c =
    let a = c.args in
    let n = c.flow_count-count.result in
    (room_for_all (bad_amount a.face) (bad_time a.tenor || too_many_periods n) (bad_number a.coupon) (length a.times.now) (length a.amounts.now) n _
    c.in-Ok.is c.judge_bond_flows.ensures).1

pub returns-in-Err : goal.returns-in-Err
returns-in-Err c =
    let a = c.args in
    let whole = refused_untouched a.face a.coupon a.tenor a.frequency _ a.times.now a.amounts.now _ c.flow_count-count.ensures c.judge_bond_flows.ensures _ c.in-Err.is in
    record { result_value = whole.0; times_after = whole.1.0; amounts_after = whole.1.1 }

pub returns-in-Ok : goal.returns-in-Ok
returns-in-Ok c =
    let a = c.args in
    let n = c.flow_count-count.result in
    let period = c.flow_period-period.result in
    let paid = c.flow_coupon-paid.result in
    let times = c.put_each.ensures (λ (i : ℕ). mul binary64 (of_int binary64 (pos i)) period) (λ i r p. search rules) in
    let amounts = c.put_each-in-Ok.ensures (λ (i : ℕ). cond (eqb i n) (add binary64 paid a.face) paid) (λ i r p. search rules) in
    let whole = accepted_put a.face a.coupon a.tenor a.frequency _ a.times.now a.amounts.now _ c.flow_count-count.ensures c.judge_bond_flows.ensures c.in-Ok.is
    _ _ c.flow_period-period.ensures c.flow_coupon-paid.ensures _ _ times amounts in
    record { result_value = whole.0; times_after = whole.1.0; amounts_after = whole.1.1 }
