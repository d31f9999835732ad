-- The days from one date to a later one: actual days, and 30/360 by the bond basis (ISDA 2006). Definitions only. Assumes nothing.
use Rattle.std.specs.Prelude.{ℕ, ◌+◌, ◌-◌, ◌*◌, cond, ◌&&◌, eqb}
use Rattle.dates.specs.declared.Date.{Date}
use Rattle.dates.specs.DayNumbers.{day_number}

unfoldable pub actual_days : Date → Date → ℕ
actual_days first second = day_number second - day_number first

-- "a first day of 31 read as 30, and a second day of 31 read as 30 when the first is then 30"
unfoldable pub first_day_of : Date → ℕ
first_day_of first = cond (eqb first.day 31) 30 first.day

unfoldable pub second_day_of : Date → Date → ℕ
second_day_of first second = cond (eqb second.day 31 && eqb (first_day_of first) 30) 30 second.day

-- "360·(years) + 30·(months) + (days)"
unfoldable pub thirty_days : Date → Date → ℕ
thirty_days first second =
    (360 * second.year + 30 * second.month + second_day_of first second) - (360 * first.year + 30 * first.month + first_day_of first)
