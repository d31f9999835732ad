-- `book::hands::no_loan` meets its contract: a term of 0 has no rows. Assumes nothing.
use native.Mathlib.Omega.{arith}
use Rattle.mortgage.specs.Month as any_month
use Rattle.book.proofs.hands.no_loan.Goals as goal

pub returns : goal.returns
unfolding any_month.due any_month.end_month
returns c = omega arith
