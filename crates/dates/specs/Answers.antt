-- What the functions over dates answer, and what they refuse: 15, "no such date or the second not after the first". Definitions only. Assumes nothing.
use Rattle.std.specs.Prelude.{ℕ, ◌-◌, Bool, ◌&&◌, List, [], ◌∷◌, leb}
use Rattle.refusals.specs.Outcome.{Outcome, Line, line, judged}
use Rattle.refusals.specs.Table.{no_such_date, bad_dates}
use Rattle.dates.specs.declared.Date.{Date}
use Rattle.dates.specs.Calendar.{is_date, is_after, days_later}
use Rattle.dates.specs.DayNumbers.{day_number}
use Rattle.dates.specs.Counts.{actual_days, thirty_days}
use Rattle.dates.specs.Months.{months_later}

-- the first date of all and the last
abbrev pub first_of_all : Date
first_of_all = record { year = 1900; month = 1; day = 1 }

abbrev pub last_of_all : Date
last_of_all = record { year = 2199; month = 12; day = 31 }

-- line 15 of one date, and of two
abbrev pub date_lines : Date → List Line
date_lines d = line 15 (no_such_date (is_date d)) ∷ []

abbrev pub dates_line : Date → Date → Line
dates_line first second = line 15 (bad_dates (is_date first) (is_date second) (is_after first second))

unfoldable pub day_number_of : Date → Outcome ℕ
day_number_of d = judged (date_lines d) (day_number d)

-- the date of a day number
unfoldable pub has_date : ℕ → Bool
has_date n = leb (day_number first_of_all) n && leb n (day_number last_of_all)

unfoldable pub date_numbered : ℕ → Outcome Date
date_numbered n = judged (line 15 (no_such_date (has_date n)) ∷ []) (days_later (n - day_number first_of_all) first_of_all)

unfoldable pub actual_days_of : Date → Date → Outcome ℕ
actual_days_of first second = judged (dates_line first second ∷ []) (actual_days first second)

unfoldable pub thirty_days_of : Date → Date → Outcome ℕ
thirty_days_of first second = judged (dates_line first second ∷ []) (thirty_days first second)

-- both the date and the one that is asked for are dates
unfoldable pub months_later_of : Date → ℕ → Outcome Date
months_later_of d months = judged (line 15 (no_such_date (is_date d && is_date (months_later months d))) ∷ []) (months_later months d)
