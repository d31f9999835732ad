-- `pool::walk::any_months` meets its contract: what is left of the walk is the walk from the month in hand on, and the balance in hand is the schedule's. Assumes nothing.
use Rattle.pool.proofs.Walks.{InHand}
use Rattle.pool.proofs.walk.any_months.Given as goal

abbrev pub invariant-loop-k : goal.invariant-loop-k
invariant-loop-k l = InHand l.fn.terms l.speeds l.initial.room l.initial.k l.k l.room l.balance
