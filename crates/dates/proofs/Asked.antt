-- What the functions over dates answer, as the code finds it out, and the date so many days after 1 January 1900. Assumes nothing.
use mathlib.Core.Path.{◌≡◌, sym, ap, ◌∙◌}
use mathlib.Core.Logic.{⊎_elim}
use mathlib.Core.Bool.{true, false, not, ◌&&◌}
use mathlib.Core.List.{[]}
use Prim.Native.Nat.{ℕ, suc, ◌+◌, ◌-◌, ◌≤◌, ◌<◌}
use native.Mathlib.Omega.{arith}
use Rattle.refusals.specs.Outcome.{refused, accepted}
use Rattle.refusals.specs.Table.{no_such_date}
use Rattle.dates.specs.declared.Date.{Date}
use Rattle.dates.specs.Calendar.{is_date}
use Rattle.dates.specs.DayNumbers.{days_before_year, days_before_month, day_number}
use Rattle.dates.specs.Months.{month_index, months_later}
use Rattle.dates.specs.Answers.{day_number_of, date_numbered, months_later_of}
use Rattle.dates.proofs.Tests.{decided}
use Rattle.refusals.proofs.OneCause.{caused}
use Rattle.dates.proofs.YearDays.{year_more}
use Rattle.dates.proofs.MonthDays.{before_thirteenth}
use Rattle.dates.proofs.LaterMonths.{in_month_index, index_bounds}
use Rattle.dates.proofs.InOrder.{read_back}

-- ---- day numbers
pub no_number : (d : Date) → is_date d ≡ false → refused 15 0 ≡ day_number_of d
unfolding day_number_of no_such_date
no_number d e = caused _ 15 (not (is_date d)) [] (ap not e)

pub its_date : (n : ℕ) (d : Date) → is_date d ≡ true → day_number d ≡ n → accepted d ≡ date_numbered n
its_date n d e f = sym (ap date_numbered (sym f) ∙ read_back d e)

-- ---- the date so many days after 1 January 1900
pub rest_of_year : (days year : ℕ) → 1900 ≤ year → days_before_year year ≤ days → days < days_before_year (year + 1) → days - days_before_year year < days_before_month year 13
rest_of_year days year h k l =
    let e : days_before_year (year + 1) ≡ days_before_year (suc year) = ap days_before_year (next year) in
    let y = year_more year h in
    let w = before_thirteenth year in
    omega arith
  where
    next : (n : ℕ) → n + 1 ≡ suc n
    next n = omega arith

-- ---- months later
module _ (d : Date) (n : ℕ) where
  both_bad : (is_date d && is_date (months_later n d)) ≡ false → refused 15 0 ≡ months_later_of d n
  unfolding months_later_of no_such_date
  both_bad e = caused _ 15 (not (is_date d && is_date (months_later n d))) [] (ap not e)

  pub bad_start : is_date d ≡ false → refused 15 0 ≡ months_later_of d n
  bad_start e = both_bad (rw e)

  bad_later : is_date d ≡ true → is_date (months_later n d) ≡ false → refused 15 0 ≡ months_later_of d n
  bad_later e f = both_bad (rw (e, f))

  later_index : month_index (months_later n d) ≡ month_index d + n
  unfolding months_later
  later_index = in_month_index (month_index d + n) d.day

  pub too_late : is_date d ≡ true → 3600 ≤ n → refused 15 0 ≡ months_later_of d n
  too_late e h = bad_later e
      (⊎_elim (λ f. absurd (let a = index_bounds d e in let b = index_bounds (months_later n d) f in let i = later_index in omega arith)) (λ f. f) (decided (is_date (months_later n d))))
