-- A loan in hand while a book is drawn. Definitions only. Assumes nothing.
use Rattle.std.specs.Prelude.{ℕ, List, Float}
use Rattle.std.proofs.lemmas.List.Edits.{sets}
use Rattle.mortgage.specs.declared.Loan.{Loan}
use Rattle.mortgage.specs.Level.{due, rows}

-- the room once the loan in hand, whose next row lies at a place of it, is drawn to its end
abbrev pub drawn_out : List Float → ℕ → Loan → List Float
drawn_out room at l = sets room at (rows (due l) l)
