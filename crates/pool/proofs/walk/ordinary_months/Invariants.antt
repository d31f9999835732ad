-- `pool::walk::ordinary_months` meets its contract: what is left of the walk is the walk from the month in hand on, and the balance in hand is the schedule's. Assumes nothing.
use Rattle.pool.proofs.Walks.{InHand}
use Rattle.pool.proofs.walk.ordinary_months.Given as goal

abbrev pub invariant-loop-k : goal.invariant-loop-k
invariant-loop-k l = InHand l.terms l.speeds l.initial.room 0 l.k l.room l.balance
