-- The calendar: which dates there are, which of two comes later, and which comes next. Document 02, K3: "valid calendar dates (1900 to 2199, leap years)". Definitions only. Assumes nothing.
use Rattle.std.specs.Prelude.{ℕ, zero, suc, ◌%◌, Bool, cond, not, ◌&&◌, ◌||◌, eqb, leb, ltb}
use Rattle.dates.specs.declared.Date.{Date}

-- the Gregorian rule: every fourth year, but of the centuries only every fourth
unfoldable pub leap : ℕ → Bool
leap year = (eqb (year % 4) 0 && not (eqb (year % 100) 0)) || eqb (year % 400) 0

-- how many days a month has, January being 1, and a year
unfoldable pub days_in : ℕ → ℕ → ℕ
days_in year month = cond (eqb month 2) (cond (leap year) 29 28) (cond (eqb month 4 || eqb month 6 || eqb month 9 || eqb month 11) 30 31)

unfoldable pub days_in_year : ℕ → ℕ
days_in_year year = cond (leap year) 366 365

unfoldable pub is_date : Date → Bool
is_date d =
    (leb 1900 d.year && leb d.year 2199)
    && (leb 1 d.month && leb d.month 12)
    && (leb 1 d.day && leb d.day (days_in d.year d.month))

-- whether the second of two dates is after the first, "compared as year, month, day"
unfoldable pub is_after : Date → Date → Bool
is_after first second =
    ltb first.year second.year
    || (eqb first.year second.year && (ltb first.month second.month || (eqb first.month second.month && ltb first.day second.day)))

-- the next date, and the date so many days later
unfoldable pub next_day : Date → Date
next_day d =
    cond (ltb d.day (days_in d.year d.month)) (record { year = d.year; month = d.month; day = suc d.day })
    (cond (ltb d.month 12) (record { year = d.year; month = suc d.month; day = 1 }) (record { year = suc d.year; month = 1; day = 1 }))

unfoldable pub days_later : ℕ → Date → Date
days_later zero d = d
days_later (suc k) d = next_day (days_later k d)
