-- A date so many months later, "the day cut to the month's end". Definitions only. Assumes nothing.
use Rattle.std.specs.Prelude.{ℕ, suc, ◌+◌, ◌-◌, ◌*◌, ◌/◌, ◌%◌, min}
use Rattle.dates.specs.declared.Date.{Date}
use Rattle.dates.specs.Calendar.{days_in}

-- a month among all months: twelve for each year
unfoldable pub month_index : Date → ℕ
month_index d = d.year * 12 + (d.month - 1)

-- the date in a month of that index with such a day, or with the month's last
unfoldable pub day_in_month : ℕ → ℕ → Date
day_in_month index day = record { year = index / 12; month = suc (index % 12); day = min day (days_in (index / 12) (suc (index % 12))) }

unfoldable pub months_later : ℕ → Date → Date
months_later months d = day_in_month (month_index d + months) d.day
