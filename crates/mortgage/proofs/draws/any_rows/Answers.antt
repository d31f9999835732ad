-- `mortgage::draws::any_rows` meets its contract: after k turns the room begins with k rows and the loan is k months on. Assumes nothing.
use mathlib.Core.Path.{ap}
use Rattle.steps.proofs.Laying.{one_laid}
use Rattle.mortgage.specs.Row.{places}
use Rattle.mortgage.proofs.RowLaws.{next_due}
use Rattle.mortgage.proofs.RowsLaid.{wide_on}
use Rattle.mortgage.proofs.draws.any_rows.Goals as goal

pub any_month-month-requires : goal.any_month-month-requires
any_month-month-requires c = next_due c.args.course _ _ _ _ c.loop-k.invariant.state c.loop-k-test.true c.requires.due

pub loop-k-preserved : goal.loop-k-preserved
loop-k-preserved c =
    let month = c.any_month-month.ensures in
    one_laid (wide_on c.args.course) c.loop-k.invariant c.requires.held c.loop-k-test.true (ap places month.0) month.1 c.put_row.ensures
