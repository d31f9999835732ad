-- `pool::flows::Pool::add_loans` meets its contract: the loans that are left are still to be added. Assumes nothing.
use Rattle.pool.specs.inner.Walk.{loans_added}
use Rattle.pool.proofs.LoanOrder.{left}
use Rattle.pool.proofs.LoanWalks.{ToAdd}
use Rattle.pool.proofs.flows.Pool.add_loans.Given as goal

abbrev pub invariant-loop-loan : goal.invariant-loop-loan
invariant-loop-loan l = ToAdd l.speeds (loans_added l.speeds (left l.fn.self.loans) l.fn.room) (left l.loan-iterator) l.room
