-- `mortgage::rows::rows_due` meets its contract. Assumes nothing.
use mathlib.Core.List.{[]}
use Rattle.mortgage.proofs.rows.rows_due.Goals as goal

pub returns : goal.returns
returns c = c.kind_rows_due.ensures []
