-- A swap's periods, and what every function over a swap and a curve asks first. Definitions only. Assumes nothing.
use Rattle.std.specs.Prelude.{ℕ, ◌||◌, List, [], ◌∷◌, ◌++◌, pos, Float}
use Rattle.std.specs.Float.{binary64}
use Rattle.std.specs.Float.Ieee.{mul, div, of_int}
use Rattle.numbers.specs.Literals.{one, three_hundred_sixty_five}
use Rattle.numbers.specs.Whole.{nearest_whole}
use Rattle.refusals.specs.Outcome.{Line, line}
use Rattle.refusals.specs.Table.{bad_amount, bad_time, too_many_periods, bad_frequency, bad_number}
use Rattle.curves.specs.Curve.{curve_lines}
use Rattle.swaps.specs.declared.Swap.{Swap}
use Rattle.swaps.specs.DayCounts.{day_fraction}

abbrev pub per_year : Swap → Float
per_year s = of_int binary64 (pos s.frequency)

-- "The periods are the tenor times the frequency to the nearest whole number."
unfoldable pub payments : Swap → ℕ
payments s = nearest_whole (mul binary64 s.tenor (per_year s))

-- dt = 1/frequency, the days 365·dt of a period to the nearest whole number, and their fraction of a year
unfoldable pub period : Swap → Float
period s = div binary64 one (per_year s)

unfoldable pub fraction : Swap → Float
fraction s = day_fraction s.day_count (nearest_whole (mul binary64 three_hundred_sixty_five (period s)))

-- the date of the payment k, from 1
unfoldable pub pay_date : Swap → ℕ → Float
pay_date s k = mul binary64 (of_int binary64 (pos k)) (period s)

abbrev pub swap_lines : Swap → List Float → List Float → List Line
swap_lines s tenors zeros =
    line 1 (bad_amount s.notional)
    ∷ curve_lines tenors zeros
    ++ line 7 (bad_time s.tenor || too_many_periods (payments s))
    ∷ line 8 (bad_frequency s.frequency)
    ∷ line 9 (bad_number s.fixed_rate)
    ∷ []
