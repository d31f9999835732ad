-- Year-end totals: for each started year of a loan's term a line of four numbers, months covered, interest, principal and closing balance. What the line of a year is, over the rows
-- alone; how lines lie in what is lent for them; and how rows are entered there one by one. Definitions only. Assumes nothing.
use Rattle.std.specs.Prelude.{ℕ, zero, suc, ◌+◌, ◌-◌, ◌*◌, ◌/◌, ◌%◌, min, cond, List, [], ◌∷◌, eqb, pos, length, get_or, Float}
use Rattle.std.proofs.lemmas.List.Edits.{sets}
use Rattle.std.specs.Float.{nan, binary64}
use Rattle.std.specs.Float.Ieee.{add, of_int}
use Rattle.numbers.specs.Literals.{one}
use Rattle.numbers.specs.Clamps.{plus_zero}
use Rattle.numbers.specs.Sums.{added_up}
use Rattle.records.specs.declared.Row.{Row}
use Rattle.steps.specs.Repaid.{column_at}
use Rattle.mortgage.specs.declared.years.Year.{Year}
use Rattle.mortgage.specs.Row.{width, principal_place, interest_place, balance_place}

-- "one summary line for each started year": of so many months
abbrev pub started_years : ℕ → ℕ
started_years months = (months + 11) / 12

-- ---- the line of a year, counted from 1, over the numbers of the rows from month 1 on
-- the months of a year among the first n: 12, fewer where they end within it, "a year cut short", none where they end before it
abbrev pub months_in : ℕ → ℕ → ℕ
months_in year n = min 12 (n - (year - 1) * 12)

module _ (numbers : List Float) (year : ℕ) where
  abbrev pub covered : ℕ
  covered = months_in year (length numbers / width)

  -- place j of the row i, from 0, of the year
  abbrev pub column_of : ℕ → ℕ → Float
  column_of j i = column_at width j numbers ((year - 1) * 12 + i)

-- "months covered, interest, principal, closing balance, sums taken left to right from 0 in row order"
unfoldable pub year_line : List Float → ℕ → Year
year_line numbers year = record {
  months = of_int binary64 (pos (covered numbers year));
  interest = added_up (column_of numbers year interest_place) (covered numbers year);
  principal = added_up (column_of numbers year principal_place) (covered numbers year);
  balance = column_of numbers year balance_place (covered numbers year - 1);
}

-- ---- lent lines, one behind the other
-- how many places a line takes, and what stands in them
abbrev pub year_width : ℕ
year_width = 4

abbrev pub year_places : Year → List Float
year_places y = y.months ∷ y.interest ∷ y.principal ∷ y.balance ∷ []

-- the line that stands from a place on, and the line i, from 0
abbrev pub year_from : List Float → ℕ → Year
year_from years p = record { months = get_or years p nan; interest = get_or years (p + 1) nan; principal = get_or years (p + 2) nan; balance = get_or years (p + 3) nan }

abbrev pub year_at : List Float → ℕ → Year
year_at years i = year_from years (i * year_width)

-- ---- a row entered into lent lines
-- a line before its first row
abbrev pub unbegun : Year
unbegun = record { months = plus_zero; interest = plus_zero; principal = plus_zero; balance = plus_zero }

-- one month more; the closing balance is that of the last row so far
unfoldable pub with_row : Year → Row → Year
with_row y r = record {
  months = add binary64 y.months one;
  interest = add binary64 y.interest r.interest;
  principal = add binary64 y.principal r.principal;
  balance = r.balance;
}

-- which line, from 0, has the row behind so many months, and the line that it is added to: a row that begins a year starts at +0, whatever was lent; any other goes on from what the line holds
abbrev pub line_behind : ℕ → ℕ
line_behind done = done / 12

unfoldable pub goes_on_from : ℕ → List Float → Year
goes_on_from done years = cond (eqb (done % 12) 0) unbegun (year_at years (line_behind done))

unfoldable pub entered : Row → List Float → List Float
entered r years = sets years (line_behind (r.month - 1) * year_width) (year_places (with_row (goes_on_from (r.month - 1) years) r))

-- the first k rows, in row order, whatever rows they are
unfoldable pub entered_up_to : (ℕ → Row) → ℕ → List Float → List Float
entered_up_to row zero years = years
entered_up_to row (suc k) years = entered (row k) (entered_up_to row k years)
