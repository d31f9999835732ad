-- The lines of a room's numbers: one row behind the others, and that a room in which a loan's rows are laid has the loan's lines. Assumes nothing.
use mathlib.Core.Path.{◌≡◌, ap}
use mathlib.Core.List.{List, ◌++◌}
use Prim.Native.Nat.{ℕ, ◌+◌, ◌*◌, ◌<◌}
use native.Mathlib.Numerals.{add-one}
use native.Mathlib.Omega.{arith}
use lib.ListN.{get_or, drop}
use lib.Ieee.{Float, nan}
use Rattle.records.specs.declared.Row.{Row}
use Rattle.mortgage.specs.declared.Loan.{Loan}
use Rattle.mortgage.specs.Row.{width, payment_place, principal_place, interest_place, balance_place, places}
use Rattle.mortgage.specs.Rates as any_rates
use Rattle.mortgage.specs.Month as any_month
use Rattle.mortgage.specs.Level.{row_of, after, rows}
use Rattle.steps.specs.Steps.{pieces, laid}
use Rattle.steps.proofs.Portions.{pieces_same}
use Rattle.steps.proofs.Columns.{column_in_room}
use Rattle.mortgage.proofs.LevelLaws.{done_after}
use Rattle.mortgage.proofs.LevelLaws.{row_places, wide}
use Rattle.listing.specs.Listing.{row_line, row_lines}
use Rattle.listing.specs.inner.Putting.{Put}
use Rattle.listing.specs.inner.Portions.{row_at, room_lines}
use Rattle.listing.proofs.Putting.{then, nothing}

-- ---- the loop that puts them
pub no_row : (done : ℕ) (room : List Float) (at : ℕ) (o : List ℕ) → Put (room_lines done room 0) at o at o
unfolding pieces
no_row done room at o = nothing at o

pub next_row : (done k : ℕ) (room : List Float) {at m n : ℕ} {o p q : List ℕ} {row : Row} → row ≡ row_at (done + k + 1) room (k * width)
    → Put (room_lines done room k) at o m p → Put (row_line row) m p n q → Put (room_lines done room (k + 1)) at o n q
unfolding pieces
next_row done k room {at} {m} {n} {o} {p} {q} {row} e a b = rw (add-one k, ← e) (then a b)

-- ---- a room with a loan's rows
module _ (l : Loan) (n : ℕ) (rest : List Float) where
  -- place j of row i
  at_place : (i j : ℕ) → i < n → j < width → get_or (rows n l ++ rest) (i * width + j) nan ≡ get_or (places (row_of (after i l))) j nan
  at_place i j = column_in_room (λ (k : ℕ). row_places (after k l)) width (λ (k : ℕ). wide (after k l)) n i j nan rest

  row_is : (i : ℕ) → i < n → row_at (l.done + i + 1) (rows n l ++ rest) (i * width) ≡ row_of (after i l)
  unfolding row_at any_month.row_of any_month.row_on any_month.paid any_month.principal any_month.remaining any_month.interest_alone any_rates.in_force
  row_is i h =
      rw (at_place i payment_place h (omega arith), at_place i principal_place h (omega arith), at_place i interest_place h (omega arith), at_place i balance_place h (omega arith), ← done_after i l)

  lines_are : room_lines l.done (rows n l ++ rest) n ≡ row_lines n l
  lines_are = pieces_same _ _ n (λ i h. ap row_line (row_is i h))

-- the lines of the rows that a draw laid
pub laid_lines : (l : Loan) (n : ℕ) (room : List Float) → room_lines l.done (laid width n (rows n l) room) n ≡ row_lines n l
laid_lines l n room = lines_are l n (drop (n * width) room)
