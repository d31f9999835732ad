-- `book::draw_book` meets its contract: each way out is a case of the definition. Assumes nothing.
use mathlib.Core.Path.{sym, ◌∙◌}
use mathlib.Core.Logic.{◌⊎◌, inl, inr}
use Prim.Native.Nat.{◌≤◌}
use native.Mathlib.Omega.{arith}
use lib.ListN.{length}
use Rattle.mortgage.specs.Row.{width}
use Rattle.book.specs.Book.{loan_count, finished}
use Rattle.book.proofs.Drawing.{may_draw, bad_total_lem, few_answers, no_row, drawn_book, progress_is}
use Rattle.book.proofs.draw_book.Goals as goal
use Rattle.book.proofs.draw_book.Goals.{then-room-lt-WIDTH+else-plan-count, else-room-lt-WIDTH}

pub returns-then-bad_total : goal.returns-then-bad_total
returns-then-bad_total c =
    let a = c.args in
    let whole = bad_total_lem a.records.now a.answers.now a.room.now _ c.refuse.ensures (sym c.bad_total.ensures ∙ c.if-bad_total.true) in
    record { result_value = whole.0; room_after = whole.1.0; answers_after = whole.1.1 }

pub returns-then-answers-count : goal.returns-then-answers-count
returns-then-answers-count c =
    let b = c.bad_total in
    let a = c.args in
    let whole = few_answers a.records.now a.answers.now a.room.now (sym b.ensures ∙ c.if-bad_total.false) _ c.refuse-then-answers-count.ensures (omega (arith, c.if-answers-count.true, c.loan_count-count.ensures)) in
    record { result_value = whole.0; room_after = whole.1.0; answers_after = whole.1.1 }

pub returns-then-plan-count : goal.returns-then-plan-count
returns-then-plan-count c =
    let p = c.plan_for-plan in
    let n = c.loan_count-count in
    let b = c.bad_total in
    let a = c.args in
    let whole = no_row a.records.now a.answers.now a.room.now (sym b.ensures ∙ c.if-bad_total.false) _ c.refuse-then-plan-count.ensures (omega (arith, c.if-answers-count.false, n.ensures)) c.if-room-lt-WIDTH.true (omega (arith, c.if-plan-count.true, n.ensures, p.ensures.finished_value.0)) in
    record { result_value = whole.0; room_after = whole.1.0; answers_after = whole.1.1 }

pub draw_planned-requires : goal.draw_planned-requires
draw_planned-requires c =
    let p = c.plan_for-plan in
    let n = c.loan_count-count in
    let b = c.bad_total in
    let a = c.args in
    let whole = may_draw a.records.now _ _ _ _ _ (sym b.ensures ∙ c.if-bad_total.false) (omega (arith, c.if-answers-count.false, n.ensures)) (p.ensures.finished_value, (p.ensures.finished_bound, p.ensures.finished_bound_2)) in
    record { records_bound = whole.0; finished_value = whole.1.0; finished_bound = whole.1.1.0; finished_bound_2 = whole.1.1.1 }

pub returns : goal.returns
returns c =
    let r = c.draw_planned in
    let p = c.plan_for-plan in
    let n = c.loan_count-count in
    let b = c.bad_total in
    let a = c.args in
    let e = r.ensures in
    let q = progress_is a.records.now _ _ _ _ (e.finished_value_2.0 ∙ p.ensures.finished_value.0) (e.finished_value_2.1 ∙ p.ensures.finished_value.2) e.finished_value_2.2 in
    let w : (width ≤ length a.room.now) ⊎ (loan_count a.records.now ≤ finished a.records.now (length a.room.now)) =
    elim c.if-room-lt-WIDTH.branch [ then-room-lt-WIDTH+else-plan-count x ↦ inr (omega (arith, x.if-plan-count.false, n.ensures, p.ensures.finished_value.0)) | else-room-lt-WIDTH x ↦ inl x.if-room-lt-WIDTH.false ] in
    let whole = drawn_book a.records.now a.answers.now a.room.now (sym b.ensures ∙ c.if-bad_total.false) (omega (arith, c.if-answers-count.false, n.ensures)) w _ _ _ q e.room_after e.answers_after in
    record { result_value = whole.0; room_after = whole.1.0; answers_after = whole.1.1 }
