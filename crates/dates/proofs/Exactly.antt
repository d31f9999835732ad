-- Each function over dates that refuses does so by the table's rule: number 15 exactly when its line has a cause. Assumes nothing.
use mathlib.Core.Bool.{◌&&◌}
use mathlib.Core.List.{[], ◌∷◌}
use Prim.Native.Nat.{ℕ}
use Rattle.refusals.specs.Outcome.{line, ExactlyWhen, above}
use Rattle.refusals.specs.Table.{no_such_date}
use Rattle.refusals.proofs.Judging.{exactly}
use Rattle.dates.specs.declared.Date.{Date}
use Rattle.dates.specs.Calendar.{is_date}
use Rattle.dates.specs.Months.{months_later}
use Rattle.dates.specs.Answers.{date_lines, dates_line, day_number_of, has_date, date_numbered, actual_days_of, thirty_days_of, months_later_of}

pub number_refused_exactly : (d : Date) → ExactlyWhen (date_lines d) (day_number_of d)
unfolding day_number_of above
number_refused_exactly d = exactly _ (date_lines d) tt

pub date_refused_exactly : (n : ℕ) → ExactlyWhen (line 15 (no_such_date (has_date n)) ∷ []) (date_numbered n)
unfolding date_numbered above
date_refused_exactly n = exactly _ (line 15 (no_such_date (has_date n)) ∷ []) tt

module _ (first second : Date) where
  pub actual_days_refused_exactly : ExactlyWhen (dates_line first second ∷ []) (actual_days_of first second)
  unfolding actual_days_of above
  actual_days_refused_exactly = exactly _ (dates_line first second ∷ []) tt

  pub thirty_days_refused_exactly : ExactlyWhen (dates_line first second ∷ []) (thirty_days_of first second)
  unfolding thirty_days_of above
  thirty_days_refused_exactly = exactly _ (dates_line first second ∷ []) tt

pub months_later_refused_exactly : (d : Date) (months : ℕ) → ExactlyWhen (line 15 (no_such_date (is_date d && is_date (months_later months d))) ∷ []) (months_later_of d months)
unfolding months_later_of above
months_later_refused_exactly d months = exactly _ (line 15 (no_such_date (is_date d && is_date (months_later months d))) ∷ []) tt
