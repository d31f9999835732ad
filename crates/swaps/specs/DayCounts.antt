-- Day counts: "a number of days: over 360, 365, and 360 for Thirty360"; and between two dates (document 02, K3). Definitions only. Assumes nothing.
use Rattle.std.specs.Prelude.{ℕ, [], ◌∷◌, pos, Float}
use Rattle.std.specs.Float.{binary64}
use Rattle.std.specs.Float.Ieee.{div, of_int}
use Rattle.numbers.specs.Literals.{three_hundred_sixty, three_hundred_sixty_five}
use Rattle.refusals.specs.Outcome.{Outcome, judged}
use Rattle.dates.specs.declared.Date.{Date}
use Rattle.dates.specs.Counts.{actual_days, thirty_days}
use Rattle.dates.specs.Answers.{dates_line}
use Rattle.swaps.specs.declared.day_counts.DayCount.{DayCount}
use Rattle.swaps.specs.declared.day_counts.DayCount.TheVariants.{Actual360, Actual365, Thirty360}

abbrev pub year_of : DayCount → Float
year_of Actual360 = three_hundred_sixty
year_of Actual365 = three_hundred_sixty_five
year_of Thirty360 = three_hundred_sixty

unfoldable pub day_fraction : DayCount → ℕ → Float
day_fraction d days = div binary64 (of_int binary64 (pos days)) (year_of d)

-- the days between two dates: actual days, or the 30/360 count
unfoldable pub days_by : DayCount → Date → Date → ℕ
days_by Actual360 first second = actual_days first second
days_by Actual365 first second = actual_days first second
days_by Thirty360 first second = thirty_days first second

unfoldable pub dated_fraction : DayCount → Date → Date → Float
dated_fraction d first second = day_fraction d (days_by d first second)

unfoldable pub dated_fraction_of : DayCount → Date → Date → Outcome Float
dated_fraction_of d first second = judged (dates_line first second ∷ []) (dated_fraction d first second)

-- "Discount time is actual days from the first date over 365."
unfoldable pub time_to : Date → Date → Float
time_to first date = day_fraction Actual365 (actual_days first date)
