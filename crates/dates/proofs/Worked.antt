-- Dates worked out from the definitions: counts around the ends of months, leap years and years that are none, day numbers, months later, and the periods of some spans. Assumes nothing.
use mathlib.Core.Path.{◌≡◌, refl}
use mathlib.Core.Bool.{true, false}
use mathlib.Core.List.{[], ◌∷◌, map}
use Prim.Native.Nat.{ℕ}
use Rattle.refusals.specs.Outcome.{refused, first_or, judged}
use Rattle.refusals.specs.Table.{no_such_date, bad_dates}
use Rattle.dates.specs.declared.Date.{Date}
use Rattle.dates.specs.declared.periods.Span.{Span}
use Rattle.dates.specs.Calendar.{leap, days_in, days_in_year, is_date, is_after}
use Rattle.dates.specs.DayNumbers.{total, days_before_year, days_before_month, day_number}
use Rattle.dates.specs.Counts.{actual_days, first_day_of, second_day_of, thirty_days}
use Rattle.dates.specs.Months.{month_index, day_in_month, months_later}
use Rattle.dates.specs.Periods.{is_span, uncut, bound, whole_periods, period_count}
use Rattle.dates.specs.Answers.{day_number_of, has_date, date_numbered, actual_days_of, thirty_days_of, months_later_of}

abbrev on : ℕ → ℕ → ℕ → Date
on day month year = record { year = year; month = month; day = day }

-- ---- 30/360: both days of 31 read as 30, the second only behind a first of 30; February's end is no end
pub january_to_february : thirty_days (on 31 1 2023) (on 28 2 2023) ≡ 28
unfolding thirty_days first_day_of second_day_of
january_to_february = refl

pub january_to_march : thirty_days (on 30 1 2023) (on 31 3 2023) ≡ 60
unfolding thirty_days first_day_of second_day_of
january_to_march = refl

pub february_to_march : thirty_days (on 28 2 2023) (on 31 3 2023) ≡ 33
unfolding thirty_days first_day_of second_day_of
february_to_march = refl

pub august_to_september : thirty_days (on 31 8 2023) (on 30 9 2023) ≡ 30
unfolding thirty_days first_day_of second_day_of
august_to_september = refl

pub from_30th_to_31st : (actual_days (on 30 7 2023) (on 31 7 2023) ≡ 1) × (thirty_days (on 30 7 2023) (on 31 7 2023) ≡ 0)
unfolding actual_days day_number days_before_year days_before_month total days_in_year days_in leap thirty_days first_day_of second_day_of
from_30th_to_31st = (refl, refl)

-- ---- leap years
pub over_a_leap_day : (is_date (on 29 2 2024) ≡ true) × (actual_days (on 28 2 2024) (on 1 3 2024) ≡ 2) × (thirty_days (on 28 2 2024) (on 1 3 2024) ≡ 3)
unfolding is_date actual_days day_number days_before_year days_before_month total days_in_year days_in leap thirty_days first_day_of second_day_of
over_a_leap_day = (refl, refl, refl)

pub over_none : (is_date (on 29 2 2023) ≡ false) × (actual_days (on 28 2 2023) (on 1 3 2023) ≡ 1) × (thirty_days (on 28 2 2023) (on 1 3 2023) ≡ 3)
unfolding is_date actual_days day_number days_before_year days_before_month total days_in_year days_in leap thirty_days first_day_of second_day_of
over_none = (refl, refl, refl)

pub from_a_leap_day : (actual_days (on 29 2 2024) (on 28 2 2025) ≡ 365) × (thirty_days (on 29 2 2024) (on 28 2 2025) ≡ 359)
unfolding actual_days day_number days_before_year days_before_month total days_in_year days_in leap thirty_days first_day_of second_day_of
from_a_leap_day = (refl, refl)

-- of the centuries only every fourth
pub in_1900 : (is_date (on 29 2 1900) ≡ false) × (actual_days (on 28 2 1900) (on 1 3 1900) ≡ 1)
unfolding is_date actual_days day_number days_before_year days_before_month total days_in_year days_in leap
in_1900 = (refl, refl)

pub in_2000 : (is_date (on 29 2 2000) ≡ true) × (actual_days (on 28 2 2000) (on 1 3 2000) ≡ 2)
unfolding is_date actual_days day_number days_before_year days_before_month total days_in_year days_in leap
in_2000 = (refl, refl)

pub in_2100 : (is_date (on 29 2 2100) ≡ false) × (actual_days (on 28 2 2100) (on 1 3 2100) ≡ 1)
unfolding is_date actual_days day_number days_before_year days_before_month total days_in_year days_in leap
in_2100 = (refl, refl)

-- ---- day numbers; from March 1900 on a spreadsheet's
pub numbers : map day_number (on 1 1 1900 ∷ on 1 3 1900 ∷ on 1 1 1901 ∷ on 1 1 2000 ∷ on 31 12 2199 ∷ []) ≡ 2 ∷ 61 ∷ 367 ∷ 36526 ∷ 109574 ∷ []
unfolding day_number days_before_year days_before_month total days_in_year days_in leap
numbers = refl

-- ---- answers: outside the years, a date that there is not, and the second not after the first
pub refusals : (day_number_of (on 31 12 1899) ≡ refused 15 0)
    × (day_number_of (on 1 1 2200) ≡ refused 15 0)
    × (day_number_of (on 31 4 2023) ≡ refused 15 0)
    × (date_numbered 1 ≡ refused 15 0)
    × (date_numbered 109575 ≡ refused 15 0)
    × (actual_days_of (on 1 3 2023) (on 1 3 2023) ≡ refused 15 0)
    × (thirty_days_of (on 1 3 2023) (on 28 2 2023) ≡ refused 15 0)
    × (months_later_of (on 31 12 2199) 1 ≡ refused 15 0)
unfolding day_number_of date_numbered has_date actual_days_of thirty_days_of months_later_of judged first_or no_such_date bad_dates is_date is_after months_later day_in_month month_index day_number days_before_year days_before_month total days_in_year days_in leap
refusals = (refl, refl, refl, refl, refl, refl, refl, refl)

-- ---- months later: the day cut, and counted from the first date and not from a cut one
pub later : (months_later 1 (on 31 1 2023) ≡ on 28 2 2023) × (months_later 2 (on 31 1 2023) ≡ on 31 3 2023) × (months_later 13 (on 31 1 2023) ≡ on 29 2 2024)
unfolding months_later day_in_month month_index days_in leap
later = (refl, refl, refl)

-- ---- periods
-- 31 January 2023 to 31 January 2024, a quarter each
abbrev quarters : Span
quarters = record { first = on 31 1 2023; second = on 31 1 2024; step = 3 }

pub four_quarters : (is_span quarters ≡ true)
    × (period_count quarters ≡ 4)
    × (map (bound quarters) (0 ∷ 1 ∷ 2 ∷ 3 ∷ 4 ∷ []) ≡ on 31 1 2023 ∷ on 30 4 2023 ∷ on 31 7 2023 ∷ on 31 10 2023 ∷ on 31 1 2024 ∷ [])
unfolding is_span period_count whole_periods bound uncut months_later day_in_month month_index is_date is_after days_in leap
four_quarters = (refl, refl, refl)

-- 15 January to 1 March 2024 by months: the last period ends at the second date
abbrev stub : Span
stub = record { first = on 15 1 2024; second = on 1 3 2024; step = 1 }

pub short_last : (is_span stub ≡ true) × (period_count stub ≡ 2) × (map (bound stub) (0 ∷ 1 ∷ 2 ∷ []) ≡ on 15 1 2024 ∷ on 15 2 2024 ∷ on 1 3 2024 ∷ [])
unfolding is_span period_count whole_periods bound uncut months_later day_in_month month_index is_date is_after days_in leap
short_last = (refl, refl, refl)

-- in the last year, with a period that would end after it
abbrev last_year : Span
last_year = record { first = on 31 8 2199; second = on 30 12 2199; step = 6 }

pub one_in_the_last_year : (is_span last_year ≡ true) × (period_count last_year ≡ 1) × (map (bound last_year) (0 ∷ 1 ∷ []) ≡ on 31 8 2199 ∷ on 30 12 2199 ∷ [])
unfolding is_span period_count whole_periods bound uncut months_later day_in_month month_index is_date is_after days_in leap
one_in_the_last_year = (refl, refl, refl)
