-- Rows read back from a room, and a line with the first of them added. Definitions only. Assumes nothing.
use Rattle.std.specs.Prelude.{ℕ, zero, suc, ◌+◌, ◌*◌, List, get_or, Float}
use Rattle.std.specs.Float.{nan}
use Rattle.records.specs.declared.Row.{Row}
use Rattle.mortgage.specs.declared.years.Year.{Year}
use Rattle.mortgage.specs.Row.{width, payment_place, principal_place, interest_place, balance_place}
use Rattle.mortgage.specs.Years.{with_row}

-- the row k, from 0, of those that stand from a place on, the first of them behind so many months
abbrev pub rows_from : List Float → ℕ → ℕ → ℕ → Row
rows_from numbers at done k = record {
  month = done + k + 1;
  payment = get_or numbers (at + k * width + payment_place) nan;
  principal = get_or numbers (at + k * width + principal_place) nan;
  interest = get_or numbers (at + k * width + interest_place) nan;
  balance = get_or numbers (at + k * width + balance_place) nan;
}

-- a line with the first k rows added to it
unfoldable pub with_rows : (ℕ → Row) → ℕ → Year → Year
with_rows row zero y = y
with_rows row (suc k) y = with_row (with_rows row k y) (row k)
