-- `mortgage::years::with_rows` meets its contract: after k turns the line has k rows added. Assumes nothing.
use mathlib.Core.Path.{◌≡◌}
use Rattle.mortgage.specs.inner.RoomRows.{rows_from, with_rows}
use Rattle.mortgage.proofs.years.with_rows.Given as goal

abbrev pub invariant-loop-k : goal.invariant-loop-k
invariant-loop-k l = l.line ≡ with_rows (rows_from l.room l.at 0) l.k l.initial.line
