-- `book::plan::plan_for` meets its contract: loan by loan, up to the first that asks for more than is left. Assumes nothing.
use native.Mathlib.Omega.{arith}
use Rattle.book.proofs.Planning.{none_passed, one_more, stopped, all_passed}
use Rattle.book.proofs.plan.plan_for.Goals as goal

pub loop-i-init : goal.loop-i-init
loop-i-init c = none_passed _ _

pub returns-then-left-asked : goal.returns-then-left-asked
returns-then-left-asked c =
    let whole = stopped _ _ _ _ _ _ c.loop-i.invariant (omega arith) c.asking_at-asked.ensures.1 c.if-left-asked.true in
    record { finished_value = whole.0; finished_bound = whole.1.0; finished_bound_2 = whole.1.1 }

pub loop-i-preserved : goal.loop-i-preserved
loop-i-preserved c = one_more _ _ _ _ _ _ c.loop-i.invariant (omega arith) c.asking_at-asked.ensures.1 c.if-left-asked.false

pub returns : goal.returns
returns c =
    let whole = all_passed _ _ _ _ _ _ c.loop-i.invariant c.loan_count-count.ensures (omega arith) in
    record { finished_value = whole.0; finished_bound = whole.1.0; finished_bound_2 = whole.1.1 }
