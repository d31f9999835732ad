-- `book::draw_planned` meets its contract: the answers, the loans that are finished, and the one cut short behind them. Assumes nothing.
use mathlib.Core.Path.{refl}
use native.Mathlib.Omega.{arith}
use Rattle.book.proofs.Drawing.{answered_within, waiting_is, answers_are, room_is}
use Rattle.book.proofs.draw_planned.Goals as goal

pub put_answers-requires : goal.put_answers-requires
put_answers-requires c =
    let w = answered_within _ _ c.args.plan.cut _ c.loans_answered-done.ensures c.requires.finished_bound.0 c.requires.finished_bound_2 in
    (w, omega (arith, w, c.requires.records_bound.1))

pub overflow_sub-result : goal.overflow_sub-result
overflow_sub-result c =
    let w = answered_within _ _ c.args.plan.cut _ c.loans_answered-done.ensures c.requires.finished_bound.0 c.requires.finished_bound_2 in
    omega (arith, w, c.loan_count-count.ensures)

pub returns : goal.returns
returns c =
    let y = c.lay_first in
    let x = c.lay_loans in
    let p = c.put_answers in
    let d = c.loans_answered-done in
    let a = c.args in
    let q = c.requires.finished_value in
    let g = c.requires.finished_bound in
    record { finished_value_2 = (refl, refl, waiting_is a.records.now a.room.now a.plan.finished a.plan.rows a.plan.cut d.result q.0 q.1 q.2 _ c.loan_count-count.ensures d.ensures); answers_after = answers_are a.records.now a.room.now a.plan.finished a.plan.rows a.plan.cut d.result q.0 q.1 q.2 a.answers.now _ d.ensures p.ensures; room_after = room_is a.records.now a.room.now a.plan.finished a.plan.rows a.plan.cut d.result q.0 q.1 q.2 x.new.room _ g.2 g.1 x.ensures y.ensures }
