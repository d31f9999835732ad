-- `pool::flows::Pool::add_loans` meets its contract: the loans that are left are still to be added. Assumes nothing.
use Rattle.pool.proofs.LoanWalks.{next_fits, one_added, all_added}
use Rattle.pool.proofs.flows.Pool.add_loans.Goals as goal

pub add_loan-requires : goal.add_loan-requires
add_loan-requires c = next_fits _ _ _ _ _ _ c.in-Some.ensures.steps c.loop-loan.invariant

pub loop-loan-preserved : goal.loop-loan-preserved
loop-loan-preserved c = one_added _ _ _ _ _ _ c.in-Some.ensures.steps c.loop-loan.invariant _ c.add_loan.ensures c.add_loan.auto.room

pub returns : goal.returns
returns c = all_added _ _ _ _ c.in-None.ensures.steps.0 c.loop-loan.invariant
