-- The rows that come next on a course, as a list. Definitions only. Assumes nothing.
use Rattle.std.specs.Prelude.{ℕ, zero, suc, List, [], ◌∷◌}
use Rattle.records.specs.declared.Row.{Row}
use Rattle.mortgage.specs.declared.Loan.{Loan}
use Rattle.mortgage.specs.declared.kinds.Course.{Course}
use Rattle.mortgage.specs.Month.{row_on, next_on}

unfoldable pub rows_to_come : Course → ℕ → Loan → List Row
rows_to_come c zero l = []
rows_to_come c (suc n) l = row_on c l ∷ rows_to_come c n (next_on c l)
