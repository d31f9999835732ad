-- `book::loans::open_at` meets its contract: a record that is refused opens nothing, and any other what its terms open. Assumes nothing.
use mathlib.Core.Path.{◌∙◌}
use Rattle.book.proofs.Asking.{refused_record, given_record}
use Rattle.book.proofs.loans.open_at.Goals as goal

pub returns-in-Err : goal.returns-in-Err
returns-in-Err c = refused_record _ _ _ c.read_at.ensures _ c.in-Err.is

pub returns-in-Ok : goal.returns-in-Ok
returns-in-Ok c = c.open.ensures ∙ given_record _ _ _ c.read_at.ensures _ c.in-Ok.is
