-- `senyolanda::loans::senyolanda_next_row` meets its contract. Assumes nothing.
use mathlib.Core.List.{[]}
use Rattle.mortgage.specs.declared.Loan.{Loan}
use Rattle.mortgage.specs.Level.{next_row}
use Rattle.senyolanda.proofs.Handed.{of_loan, told_as}
use Rattle.senyolanda.proofs.loans.senyolanda_next_row.Goals as goal

pub returns : goal.returns
returns c = told_as _ _ _ _ _ (c.put_next.ensures []) (of_loan (λ (m : Loan). next_row m) c.loan_in.ensures c.next_row-next.ensures)
