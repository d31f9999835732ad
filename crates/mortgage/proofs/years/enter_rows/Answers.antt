-- `mortgage::years::enter_rows` meets its contract: after k rows, whole years or parts of them, the lines are those of k rows entered one by one. Assumes nothing.
use native.Mathlib.Omega.{arith}
use Rattle.mortgage.proofs.EnteringRows.{rows_more}
use Rattle.mortgage.proofs.years.enter_rows.Goals as goal

pub loop-k-preserved : goal.loop-k-preserved
loop-k-preserved c = (rows_more c.args.room.now c.args.done c.loop-k.k _ c.args.years.now c.loop-k.years _ c.loop-k.invariant.0 c.enter_year.ensures, omega arith)
