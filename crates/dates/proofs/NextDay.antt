-- From each date to the next: the day number rises by one, and the next is a date too unless 2199 is over. A law, and not a case for each day. Assumes nothing.
use mathlib.Core.Path.{◌≡◌, refl, sym, ap, ◌∙◌}
use mathlib.Core.Bool.{Bool, true, false, cond}
use Prim.Native.Nat.{ℕ, suc, ◌+◌, ◌≤◌, ◌<◌}
use native.Mathlib.Omega.{arith}
use lib.Dec.{ltb}
use borrow.Author.Tests.{ltb-true, ltb-false}
use Rattle.dates.specs.declared.Date.{Date}
use Rattle.dates.specs.Calendar.{days_in, days_in_year, is_date, is_after, next_day}
use Rattle.dates.specs.DayNumbers.{days_before_month, day_number}
use Rattle.dates.specs.Answers.{last_of_all}
use Rattle.dates.specs.inner.Ranks.{rank}
use Rattle.dates.proofs.Parts.{Parts, parts, of_parts, days_in_bounds}
use Rattle.dates.proofs.YearDays.{year_more}
use Rattle.dates.proofs.MonthDays.{month_more, in_january, before_thirteenth}
use Rattle.dates.proofs.Ranks.{shaped, after_rank}

-- the days of a year are those before December and December's
pub year_by_december : (year : ℕ) → days_in_year year ≡ days_before_month year 12 + days_in year 12
year_by_december year = sym (before_thirteenth year) ∙ month_more year 12 (omega arith)

abbrev on_day : Date → Date
on_day d = record { year = d.year; month = d.month; day = suc d.day }

abbrev in_month : Date → Date
in_month d = record { year = d.year; month = suc d.month; day = 1 }

abbrev in_year : Date → Date
in_year d = record { year = suc d.year; month = 1; day = 1 }

december_ends : (year month day : ℕ) → month ≡ 12 → days_in year month ≤ day → 31 ≤ day
unfolding days_in
december_ends year month day m l = rw m at l

pub last_is_date : is_date last_of_all ≡ true
unfolding is_date days_in
last_is_date = refl

module _ (d : Date) (p : Parts d) where
  day_number_on : day_number (on_day d) ≡ suc (day_number d)
  unfolding day_number
  day_number_on = omega arith

  month_number_on : days_in d.year d.month ≤ d.day → day_number (in_month d) ≡ suc (day_number d)
  unfolding day_number
  month_number_on h = let e = month_more d.year d.month p.month_low in omega arith

  year_number_on : days_in d.year d.month ≤ d.day → 12 ≤ d.month → day_number (in_year d) ≡ suc (day_number d)
  unfolding day_number
  year_number_on h late =
      let december : d.month ≡ 12 = omega arith in
      let y = year_more d.year p.not_early in
      let w = year_by_december d.year in
      let j = in_january (suc d.year) in
      let l : days_in d.year d.month ≡ days_in d.year 12 = ap (days_in d.year) december in
      let b : days_before_month d.year d.month ≡ days_before_month d.year 12 = ap (days_before_month d.year) december in
      omega arith

  number_on : (s t : Bool) → ltb d.day (days_in d.year d.month) ≡ s → ltb d.month 12 ≡ t → day_number (cond s (on_day d) (cond t (in_month d) (in_year d))) ≡ suc (day_number d)
  number_on true t e f = day_number_on
  number_on false true e f = month_number_on (ltb-false d.day (days_in d.year d.month) e)
  number_on false false e f = year_number_on (ltb-false d.day (days_in d.year d.month) e) (ltb-false d.month 12 f)

  date_on : (s t : Bool) → ltb d.day (days_in d.year d.month) ≡ s → ltb d.month 12 ≡ t → rank d < rank last_of_all
      → is_date (cond s (on_day d) (cond t (in_month d) (in_year d))) ≡ true
  date_on true t e f h =
      let l = ltb-true d.day (days_in d.year d.month) e in
      of_parts (on_day d) (record { not_early = p.not_early; not_late = p.not_late; month_low = p.month_low; month_high = p.month_high; day_low = omega arith; day_high = l })
  date_on false true e f h =
      let b = days_in_bounds d.year (suc d.month) in
      of_parts (in_month d)
      (record { not_early = p.not_early; not_late = p.not_late; month_low = omega arith; month_high = ltb-true d.month 12 f; day_low = omega arith; day_high = omega arith })
  date_on false false e f h =
      let l = ltb-false d.day (days_in d.year d.month) e in
      let december : d.month ≡ 12 = (let m = ltb-false d.month 12 f in let q = p.month_high in omega arith) in
      let b = days_in_bounds (suc d.year) 1 in
      let k : 31 ≤ d.day = december_ends d.year d.month d.day december l in
      let y : suc d.year ≤ 2199 = (let q = p.not_late in omega arith) in
      of_parts (in_year d) (record { not_early = (let q = p.not_early in omega arith); not_late = y; month_low = omega arith; month_high = omega arith; day_low = omega arith; day_high = omega arith })

module _ (d : Date) (e : is_date d ≡ true) where
  pub next_number : day_number (next_day d) ≡ suc (day_number d)
  unfolding next_day
  next_number = number_on d (parts d e) (ltb d.day (days_in d.year d.month)) (ltb d.month 12) refl refl

  pub next_is_date : is_after d last_of_all ≡ true → is_date (next_day d) ≡ true
  unfolding next_day
  next_is_date h = date_on d (parts d e) (ltb d.day (days_in d.year d.month)) (ltb d.month 12) refl refl (after_rank d last_of_all (shaped d e) (shaped last_of_all last_is_date) h)
