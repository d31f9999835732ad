-- `book::plan::plan_for` meets its contract: loan by loan, up to the first that asks for more than is left. Assumes nothing.
use Prim.Native.Nat.{◌-◌}
use Rattle.book.specs.Book.{loan_count}
use Rattle.book.proofs.Planning.{Passed}
use Rattle.book.proofs.plan.plan_for.Given as goal

abbrev pub invariant-loop-i : goal.invariant-loop-i
invariant-loop-i l = Passed l.records l.room l.rows l.left l.i

abbrev pub decreases-loop-i : goal.decreases-loop-i
decreases-loop-i l = loan_count l.records - l.i
