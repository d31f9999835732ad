-- `mortgage::draws::ordinary_rows` meets its contract: after k turns the room begins with k rows and the loan is k months on. Assumes nothing.
use mathlib.Core.Path.{ap}
use native.Mathlib.Omega.{arith}
use Rattle.steps.proofs.Laying.{one_laid}
use Rattle.mortgage.specs.Row.{places}
use Rattle.mortgage.proofs.RowLaws.{next_not_last, not_alone_on, interest_on_lem}
use Rattle.mortgage.proofs.RowsLaid.{wide_on, counted}
use Rattle.mortgage.proofs.draws.ordinary_rows.Goals as goal

pub ordinary_month-requires : goal.ordinary_month-requires
ordinary_month-requires c =
    let a = c.args in
    let here = c.loop-k.invariant.state in
    record { only_le_done = (not_alone_on a.course _ _ _ here (omega arith), next_not_last a.course _ _ _ _ here c.loop-k-test.true c.requires.2); interest_value = rw c.monthly_rate-rate.ensures (interest_on_lem a.course _ _ _ here) }

pub loop-k-preserved : goal.loop-k-preserved
loop-k-preserved c =
    let month = c.in-Some.ensures in
    one_laid (wide_on c.args.course) c.loop-k.invariant c.requires.0 c.loop-k-test.true (ap places month.0) month.1 c.put_row.ensures

pub returns-after-loop-k : goal.returns-after-loop-k
returns-after-loop-k c = let r = counted c.args.course c.loop-k.invariant c.loop-k.auto.k-end in record { laid = r.0; at_most = r.1 }

pub returns-in_default : goal.returns-in_default
returns-in_default c = let r = counted c.args.course c.loop-k.invariant c.loop-k.auto.k-end in record { laid = r.0; at_most = r.1 }
