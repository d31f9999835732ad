-- `senyolanda::kinds::next_kind_row` meets its contract. Assumes nothing.
use Rattle.mortgage.specs.declared.Loan.{Loan}
use Rattle.mortgage.specs.Kinds.{way_of}
use Rattle.mortgage.specs.Rows.{next_row}
use Rattle.senyolanda.proofs.Handed.{of_loan, told_as}
use Rattle.senyolanda.proofs.kinds.next_kind_row.Goals as goal

pub returns : goal.returns
returns c =
    let a = c.args in
    told_as _ _ _ _ _ (c.put_next.ensures a.index.now) (of_loan (λ (m : Loan). next_row (way_of a.kind a.index.now) m) c.loan_in.ensures c.next_kind_row-next.ensures)
