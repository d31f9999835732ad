-- Dates as a host has them: three numbers, year, month and day. Definitions only. Assumes nothing.
use Rattle.std.specs.Prelude.{ℕ, Bool, ◌&&◌, List, [], ◌∷◌, ltb, Float}
use Rattle.refusals.specs.Outcome.{Outcome, Line, line, and_then}
use Rattle.refusals.specs.Table.{bad_code, no_such_date}
use Rattle.dates.specs.declared.Date.{Date}
use Rattle.swaps.specs.declared.day_counts.DayCount.{DayCount}
use Rattle.swaps.specs.Codes.{last_code, day_count_of}
use Rattle.swaps.specs.DayCounts.{dated_fraction_of}

abbrev pub date_of : ℕ → ℕ → ℕ → Date
date_of year month day = record { year = year; month = month; day = day }

abbrev pub date_numbers : Date → List ℕ
date_numbers d = d.year ∷ d.month ∷ d.day ∷ []

-- the days between two dates by a day count's code: 11 before 15
unfoldable pub dated_fraction_by : ℕ → Date → Date → Outcome Float
dated_fraction_by code first second = and_then (day_count_of code) (λ (d : DayCount). dated_fraction_of d first second)

-- a date that a record can hold, of the calendar or not: its year in two bytes, its month and its day in one each
abbrev pub held_by_record : Date → Bool
held_by_record d = ltb d.year 0x1_0000 && ltb d.month 0x100 && ltb d.day 0x100

-- what a writer of a dated swap's record asks: its day count's code, and dates that the record can hold
abbrev pub written_lines : ℕ → Date → Date → List Line
written_lines code first second = line 11 (bad_code last_code code) ∷ line 15 (no_such_date (held_by_record first && held_by_record second)) ∷ []
