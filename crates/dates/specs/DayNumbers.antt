-- Day numbers: the days of the years before, of the months before, and the day. 1 January 1900 has number 2, so that from March 1900 on the numbers are those of spreadsheets.
-- Definitions only. Assumes nothing.
use Rattle.std.specs.Prelude.{ℕ, zero, suc, ◌+◌, ◌-◌}
use Rattle.dates.specs.declared.Date.{Date}
use Rattle.dates.specs.Calendar.{days_in, days_in_year}

-- what the first k add up to
unfoldable pub total : (ℕ → ℕ) → ℕ → ℕ
total f zero = 0
total f (suc k) = total f k + f k

unfoldable pub days_before_year : ℕ → ℕ
days_before_year year = total (λ (k : ℕ). days_in_year (1900 + k)) (year - 1900)

unfoldable pub days_before_month : ℕ → ℕ → ℕ
days_before_month year month = total (λ (k : ℕ). days_in year (suc k)) (month - 1)

unfoldable pub day_number : Date → ℕ
day_number d = suc (days_before_year d.year + days_before_month d.year d.month + d.day)
