-- `book::loans::asking_of` meets its contract: the verdict on the terms decides. Assumes nothing.
use Rattle.refusals.specs.Outcome.{refused}
use Rattle.book.proofs.Asking.{refused_terms, accepted_terms, both_of}
use Rattle.book.proofs.loans.asking_of.Goals as goal

pub returns-in-Err : goal.returns-in-Err
returns-in-Err c = both_of _ _ (refused _ _) _ c.refused_loan.ensures (refused_terms _ _ c.judge_terms.ensures _ c.in-Err.is)

pub returns-in-Ok : goal.returns-in-Ok
returns-in-Ok c = accepted_terms _ _ c.judge_terms.ensures c.in-Ok.is
