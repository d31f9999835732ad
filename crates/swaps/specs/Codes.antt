-- The code of a day count in a record: "day count 0 to 2", in the order of the enum. Definitions only. Assumes nothing.
use Rattle.std.specs.Prelude.{ℕ, cond, [], ◌∷◌, eqb}
use Rattle.refusals.specs.Outcome.{Outcome, line, judged}
use Rattle.refusals.specs.Table.{bad_code}
use Rattle.swaps.specs.declared.day_counts.DayCount.{DayCount}
use Rattle.swaps.specs.declared.day_counts.DayCount.TheVariants.{Actual360, Actual365, Thirty360}

abbrev pub code_of : DayCount → ℕ
code_of Actual360 = 0
code_of Actual365 = 1
code_of Thirty360 = 2

abbrev pub last_code : ℕ
last_code = code_of Thirty360

-- the day count of a code in the set
unfoldable pub day_count_at : ℕ → DayCount
day_count_at code = cond (eqb code 0) Actual360 (cond (eqb code 1) Actual365 Thirty360)

unfoldable pub day_count_of : ℕ → Outcome DayCount
day_count_of code = judged (line 11 (bad_code last_code code) ∷ []) (day_count_at code)
