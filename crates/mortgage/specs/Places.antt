-- Rows from places of a room: how many are laid there, of one loan and of two loans at once, whatever is asked. Definitions only. Assumes nothing.
use Rattle.std.specs.Prelude.{ℕ, ◌-◌, min}
use Rattle.mortgage.specs.declared.Loan.{Loan}
use Rattle.mortgage.specs.Level.{count}

-- of the rows that are asked for, those that are due and lie between the place and the end
abbrev pub count_at : Loan → ℕ → ℕ → ℕ → ℕ
count_at l asked at end = min (count l (end - at)) asked

-- of two loans as many rows each: the first's end where the second's begin
abbrev pub count_at_both : Loan → Loan → ℕ → ℕ → ℕ → ℕ → ℕ
count_at_both first second asked a b end = min (count_at first asked a b) (count_at second asked b end)
