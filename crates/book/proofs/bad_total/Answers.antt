-- `book::bad_total` meets its contract: the total length first, then the count. Assumes nothing.
use Rattle.book.proofs.Drawing.{odd_length, by_count}
use Rattle.book.proofs.bad_total.Goals as goal

pub returns-then-records-ne0 : goal.returns-then-records-ne0
returns-then-records-ne0 c = odd_length c.args.records.now c.if-records-ne0.true

pub returns : goal.returns
returns c = by_count c.args.records.now _ c.if-records-ne0.false c.loan_count.ensures
