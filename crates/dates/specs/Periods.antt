-- Periods between two dates: so many months each, "counted from the first date", the last one "ending at the second date". Definitions only. Assumes nothing.
use Rattle.std.specs.Prelude.{ℕ, suc, ◌-◌, ◌*◌, ◌/◌, Bool, cond, ◌&&◌, leb}
use Rattle.dates.specs.declared.Date.{Date}
use Rattle.dates.specs.declared.periods.Span.{Span}
use Rattle.dates.specs.Calendar.{is_date, is_after}
use Rattle.dates.specs.Months.{month_index, months_later}

-- two dates, the second after the first, and from 1 to 12 months a period
unfoldable pub is_span : Span → Bool
is_span s = (is_date s.first && is_date s.second) && is_after s.first s.second && (leb 1 s.step && leb s.step 12)

module _ (s : Span) where
  -- where period i ends, counted from 1, were there no second date: its months are counted from the first date, and not from a day that was cut
  unfoldable pub uncut : ℕ → Date
  uncut i = months_later (i * s.step) s.first

  -- where it ends: there, or at the second date where that does not come later; and where the first begins
  unfoldable pub bound : ℕ → Date
  bound i = cond (is_after (uncut i) s.second) (uncut i) s.second

  -- as many periods as it takes to reach or pass the second date: all that end in a month before its month, and one more where the next that ends in its month does not reach it
  unfoldable pub whole_periods : ℕ
  whole_periods = (month_index s.second - month_index s.first) / s.step

  unfoldable pub period_count : ℕ
  period_count = cond (is_after (uncut whole_periods) s.second) (suc whole_periods) whole_periods
