-- `book::hands::take_next` meets its contract: a refused loan leaves the hand as it is, and any other is taken in. Assumes nothing.
use mathlib.Core.Path.{refl, sym, ap, ◌∙◌}
use Rattle.book.specs.Book.{loan_at}
use Rattle.book.proofs.Taking.{passed_over, taken_next, may_take}
use Rattle.book.proofs.hands.take_next.Goals as goal
use Rattle.refusals.specs.Answers.{outcome}

pub take_in-requires : goal.take_in-requires
take_in-requires c =
    let o = c.open_at in
    let a = c.args in
    may_take _ a.hand.loan a.hand.at a.hand.end _ (loan_at a.records.now a.i) (sym (ap outcome c.in-Ok.is) ∙ o.ensures) c.requires.width_bound

pub returns-in-Err : goal.returns-in-Err
returns-in-Err c =
    let o = c.open_at in
    let a = c.args in
    let whole = passed_over a.room.now _ a.hand.loan a.hand.at a.hand.end (loan_at a.records.now a.i) _ _ (sym (ap outcome c.in-Err.is) ∙ o.ensures) refl c.requires.width_bound.0 in
    record { end_value = whole.0; loan_after = whole.1 }

pub returns-in-Ok : goal.returns-in-Ok
returns-in-Ok c =
    let t = c.take_in in
    let o = c.open_at in
    let a = c.args in
    let whole = taken_next a.room.now _ a.hand.loan a.hand.at a.hand.end (loan_at a.records.now a.i) _ _ _ _ (sym (ap outcome c.in-Ok.is) ∙ o.ensures) (t.ensures.end_value, t.ensures.loan_after) in
    record { end_value = whole.0; loan_after = whole.1 }
