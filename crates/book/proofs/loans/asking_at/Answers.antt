-- `book::loans::asking_at` meets its contract: a record that is refused asks for nothing, and any other what its terms ask for. Assumes nothing.
use Rattle.refusals.specs.Outcome.{refused}
use Rattle.book.proofs.Asking.{refused_record, given_record, both_of}
use Rattle.book.proofs.loans.asking_at.Goals as goal

pub returns-in-Err : goal.returns-in-Err
returns-in-Err c = both_of _ _ (refused _ _) _ c.refused_loan.ensures (refused_record _ _ _ c.read_at.ensures _ c.in-Err.is)

pub returns-in-Ok : goal.returns-in-Ok
returns-in-Ok c = both_of _ _ _ _ c.asking_of.ensures (given_record _ _ _ c.read_at.ensures _ c.in-Ok.is)
