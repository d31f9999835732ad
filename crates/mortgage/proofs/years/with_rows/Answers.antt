-- `mortgage::years::with_rows` meets its contract: a turn adds the row that stands at its place. Assumes nothing.
use mathlib.Core.Path.{refl}
use Rattle.mortgage.proofs.EnteringRows.{row_added}
use Rattle.mortgage.proofs.years.with_rows.Goals as goal

pub loop-k-preserved : goal.loop-k-preserved
loop-k-preserved c = row_added c.args.room.now c.args.at c.loop-k.k _ c.args.year c.loop-k.line c.loop-k.invariant refl
