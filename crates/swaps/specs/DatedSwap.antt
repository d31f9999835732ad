-- A dated swap's span, and what every function over it and a curve asks first (document 02, K3). Definitions only. Assumes nothing.
use Rattle.std.specs.Prelude.{◌/◌, Bool, not, ◌&&◌, ◌||◌, List, [], ◌∷◌, ◌++◌, Float}
use Rattle.refusals.specs.Outcome.{Line, line}
use Rattle.refusals.specs.Table.{bad_amount, too_many_periods, bad_dated_frequency, bad_number, bad_dates}
use Rattle.dates.specs.declared.periods.Span.{Span}
use Rattle.dates.specs.Calendar.{is_date, is_after}
use Rattle.dates.specs.Periods.{period_count}
use Rattle.dates.specs.Answers.{dates_line}
use Rattle.curves.specs.Curve.{curve_lines}
use Rattle.swaps.specs.declared.DatedSwap.{DatedSwap}

-- "12/frequency months each, counted from the first date"
unfoldable pub span_of : DatedSwap → Span
span_of s = record { first = s.first; second = s.second; step = 12 / s.frequency }

-- "7 also above 1,200 dated periods, where 8 and 15 have no cause"
unfoldable pub too_many_dated : DatedSwap → Bool
too_many_dated s =
    not (bad_dated_frequency s.frequency || bad_dates (is_date s.first) (is_date s.second) (is_after s.first s.second))
    && too_many_periods (period_count (span_of s))

-- all but 15: where a day count's code is outside its set, 11 is given before it
abbrev pub dated_lines_and : List Line → DatedSwap → List Float → List Float → List Line
dated_lines_and rest s tenors zeros =
    line 1 (bad_amount s.notional)
    ∷ curve_lines tenors zeros
    ++ line 7 (too_many_dated s)
    ∷ line 8 (bad_dated_frequency s.frequency)
    ∷ line 9 (bad_number s.fixed_rate)
    ∷ rest

abbrev pub uncoded_dated_lines : DatedSwap → List Float → List Float → List Line
uncoded_dated_lines = dated_lines_and []

abbrev pub dated_lines : DatedSwap → List Float → List Float → List Line
dated_lines s = dated_lines_and (dates_line s.first s.second ∷ []) s
