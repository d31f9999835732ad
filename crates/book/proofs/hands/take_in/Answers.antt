-- `book::hands::take_in` meets its contract: whichever loan stays in hand, its end is the end of both. Assumes nothing.
use Rattle.std.proofs.Common.{rules}
use Rattle.book.proofs.Taking.{stays, follows, all_of_both, fewer_fit}
use Rattle.book.proofs.hands.take_in.Goals as goal

pub overflow_add-result-else-count-first_rows : goal.overflow_add-result-else-count-first_rows
overflow_add-result-else-count-first_rows c =
    fewer_fit _ _ _ _ c.fewer-count.ensures (search rules)

pub returns-then-count-first_rows : goal.returns-then-count-first_rows
returns-then-count-first_rows c =
    let y = c.lay_both-pair in
    let f = c.fewer-count in
    let second = c.rows_due-rows in
    let first = c.rows_due-first_rows in
    let a = c.args in
    let n = all_of_both a.hand.at a.hand.end f.result first.result second.result _ a.hand.loan a.loan first.ensures second.ensures f.ensures c.requires.0 c.requires.1 in
    let both = rw n at y.ensures.first_value in
    let laid = rw n at y.ensures.room_after in
    let whole = stays a.room.now y.new.room a.hand.at a.hand.end f.result a.hand.loan a.loan c.requires.0 laid first.result second.result first.ensures second.ensures f.ensures _ both.0 c.if-count-first_rows.true in
    record { end_value = whole.0; loan_after = whole.1 }

pub returns-else-count-first_rows : goal.returns-else-count-first_rows
returns-else-count-first_rows c =
    let y = c.lay_both-pair in
    let f = c.fewer-count in
    let second = c.rows_due-rows in
    let first = c.rows_due-first_rows in
    let a = c.args in
    let n = all_of_both a.hand.at a.hand.end f.result first.result second.result _ a.hand.loan a.loan first.ensures second.ensures f.ensures c.requires.0 c.requires.1 in
    let both = rw n at y.ensures.first_value in
    let laid = rw n at y.ensures.room_after in
    let whole = follows a.room.now y.new.room a.hand.at a.hand.end f.result a.hand.loan a.loan c.requires.0 laid first.result second.result first.ensures second.ensures f.ensures _ both.1 c.if-count-first_rows.false in
    record { end_value = whole.0; loan_after = whole.1 }
