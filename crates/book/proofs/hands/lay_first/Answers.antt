-- `book::hands::lay_first` meets its contract: a refused loan has no rows, and any other's are laid. Assumes nothing.
use mathlib.Core.Path.{sym, ap, ◌∙◌}
use native.Mathlib.Omega.{arith}
use Rattle.book.specs.Book.{loan_at}
use Rattle.book.proofs.Taking.{no_first, refused_first, first_laid}
use Rattle.book.proofs.hands.lay_first.Goals as goal
use Rattle.refusals.specs.Answers.{outcome}

pub returns-then-count-eq0 : goal.returns-then-count-eq0
returns-then-count-eq0 c = let a = c.args in no_first a.room.now a.at a.count (loan_at a.records.now a.i) c.if-count-eq0.true

pub open_at-requires : goal.open_at-requires
open_at-requires c = c.requires.i_bound (omega arith)

pub returns-in-Err : goal.returns-in-Err
returns-in-Err c =
    let a = c.args in
    refused_first a.room.now a.at a.count _ _ _ (sym (ap outcome c.in-Err.is) ∙ c.open_at.ensures)

pub returns-in-Ok : goal.returns-in-Ok
returns-in-Ok c =
    let a = c.args in
    first_laid a.room.now a.at a.count _ _ _ (sym (ap outcome c.in-Ok.is) ∙ c.open_at.ensures) c.requires.width_in_bounds.0 c.requires.width_in_bounds.1 c.lay_at.ensures.room_after
