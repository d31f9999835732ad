-- `pool::flows::Pool::judged` meets its contract: no loan that the lines accept is bad. Assumes nothing.
use Rattle.pool.proofs.Accepted.{principals_right, terms_right}
use Rattle.pool.proofs.flows.Pool.judged.Goals as goal

pub invariant_of-result : goal.invariant_of-result
invariant_of-result c = rw c.in_ok-loans.ensures.same (record { principals = principals_right _ _ c.in_ok-loans.ensures.verdict; terms = terms_right _ _ c.in_ok-loans.ensures.verdict })
