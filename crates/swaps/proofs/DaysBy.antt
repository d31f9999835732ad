-- The days between two dates by each day count, as a `match` on the day count works them out. Assumes nothing.
use mathlib.Core.Path.{◌≡◌, sym, ap, ◌∙◌}
use Prim.Native.Nat.{ℕ}
use Rattle.dates.specs.declared.Date.{Date}
use Rattle.dates.specs.Counts.{actual_days, thirty_days}
use Rattle.swaps.specs.declared.day_counts.DayCount.{DayCount}
use Rattle.swaps.specs.declared.day_counts.DayCount.TheVariants.{Actual360, Actual365, Thirty360}
use Rattle.swaps.specs.DayCounts.{days_by}

module _ (d : DayCount) (first second : Date) {n days : ℕ} (same : n ≡ days) where
  pub over_360 : d ≡ Actual360 → days ≡ actual_days first second → n ≡ days_by d first second
  unfolding days_by
  over_360 is e = same ∙ e ∙ ap (λ (x : DayCount). days_by x first second) (sym is)

  pub over_365 : d ≡ Actual365 → days ≡ actual_days first second → n ≡ days_by d first second
  unfolding days_by
  over_365 is e = same ∙ e ∙ ap (λ (x : DayCount). days_by x first second) (sym is)

  pub by_thirties_lem : d ≡ Thirty360 → days ≡ thirty_days first second → n ≡ days_by d first second
  unfolding days_by
  by_thirties_lem is e = same ∙ e ∙ ap (λ (x : DayCount). days_by x first second) (sym is)
