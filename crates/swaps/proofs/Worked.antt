-- Dated swaps worked out from the definitions, on a curve of 0, where nothing is discounted: two half years from the end of a month, and a single period that counts no day. And the fractions of
-- a year around a month's end, by dates and by document 01's plain number of days. Assumes nothing.
use mathlib.Core.Path.{◌≡◌, refl}
use mathlib.Core.Bool.{true}
use mathlib.Core.List.{List, [], ◌∷◌, map}
use Prim.Native.Nat.{ℕ}
use lib.Ieee.{Float, nan, binary64, add, sub, mul, div, neg, lt, le, eq, of_int, of_bits, to_bits}
use Rattle.numbers.specs.Sizes.{absolute}
use Rattle.numbers.specs.Whole.{nearest_whole}
use Rattle.numbers.specs.Sums.{added_up}
use Rattle.refusals.specs.Outcome.{refused, accepted, first_or, judged}
use Rattle.refusals.specs.Table.{bad_amount, unequal, bad_knot_count, bad_knot, bad_knots_after, bad_knots, too_many_periods, bad_frequency, bad_dated_frequency, bad_number, no_such_date, bad_dates}
use Rattle.dates.specs.declared.Date.{Date}
use Rattle.dates.specs.Calendar.{leap, days_in, days_in_year, is_date, is_after}
use Rattle.dates.specs.DayNumbers.{total, days_before_year, days_before_month, day_number}
use Rattle.dates.specs.Counts.{actual_days, first_day_of, second_day_of, thirty_days}
use Rattle.dates.specs.Months.{month_index, day_in_month, months_later}
use Rattle.dates.specs.Periods.{uncut, bound, whole_periods, period_count}
use Rattle.elementary.specs.Horner.{horner}
use Rattle.elementary.specs.Exp.{factorial, inverse_factorial, below, halvings, two_to, reduced, exp_within, exp_not_above, exp_of, exp}
use Rattle.curves.specs.Segments.{segment_ending, flat_outside}
use Rattle.swaps.specs.declared.DatedSwap.{DatedSwap}
use Rattle.swaps.specs.declared.AnySwap.TheVariants.{Dated}
use Rattle.swaps.specs.declared.day_counts.DayCount.{DayCount}
use Rattle.swaps.specs.declared.day_counts.DayCount.TheVariants.{Actual360, Actual365, Thirty360}
use Rattle.swaps.specs.DayCounts.{day_fraction, days_by, dated_fraction, time_to}
use Rattle.swaps.specs.Discount.{zero_rate_of, discount_of}
use Rattle.swaps.specs.DatedSwap.{span_of, too_many_dated}
use Rattle.swaps.specs.Periods.{of_dates, terms_of}
use Rattle.swaps.specs.Legs.{factor_at, last_factor, counted, fixed_payment, fixed_term, fixed_leg, forward, floating_term, floating_leg, net_value, annuity_term, annuity, par_rate_of}
use Rattle.swaps.specs.Valuation.{fixed_leg_pv, floating_leg_pv, par_swap_rate, swap_npv}

abbrev on : ℕ → ℕ → ℕ → Date
on day month year = record { year = year; month = month; day = day }

-- 0, 1, 1/2, 50, 100 and 150
abbrev y0 : Float
y0 = of_bits binary64 0

abbrev y1 : Float
y1 = of_bits binary64 0x3ff0_0000_0000_0000

abbrev half : Float
half = of_bits binary64 0x3fe0_0000_0000_0000

abbrev y50 : Float
y50 = of_bits binary64 0x4049_0000_0000_0000

abbrev y100 : Float
y100 = of_bits binary64 0x4059_0000_0000_0000

abbrev y150 : Float
y150 = of_bits binary64 0x4062_c000_0000_0000

-- of 100 at a rate of 1/2, so many times a year by 30/360
abbrev swap : ℕ → Date → Date → DatedSwap
swap frequency first second = record { notional = y100; fixed_rate = half; frequency = frequency; first = first; second = second; day_count = Thirty360 }

abbrev a_year : DatedSwap
a_year = swap 2 (on 31 1 2023) (on 31 1 2024)

abbrev a_day : DatedSwap
a_day = swap 2 (on 30 1 2023) (on 31 1 2023)

abbrev tenors : List Float
tenors = y1 ∷ []

abbrev zeros : List Float
zeros = y0 ∷ []

-- each half year from a month's end to a month's end counts 180 days: two payments of 25, and the 100
pub of_a_year : (fixed_leg_pv (Dated a_year) tenors zeros ≡ accepted y150)
    × (floating_leg_pv (Dated a_year) tenors zeros ≡ accepted y100)
    × (swap_npv (Dated a_year) tenors zeros true ≡ accepted y50)
    × (par_swap_rate (Dated a_year) tenors zeros ≡ accepted y0)
unfolding fixed_leg_pv floating_leg_pv swap_npv par_swap_rate fixed_leg floating_leg net_value par_rate_of annuity fixed_term floating_term forward annuity_term counted fixed_payment factor_at last_factor added_up terms_of of_dates span_of too_many_dated time_to dated_fraction days_by day_fraction discount_of zero_rate_of flat_outside segment_ending period_count whole_periods bound uncut months_later day_in_month month_index is_after is_date days_in days_in_year leap day_number days_before_year days_before_month total actual_days thirty_days first_day_of second_day_of exp exp_of exp_not_above exp_within reduced two_to halvings below inverse_factorial factorial horner absolute nearest_whole judged first_or bad_amount unequal bad_knot_count bad_knot bad_knots_after bad_knots too_many_periods bad_frequency bad_dated_frequency bad_number no_such_date bad_dates add sub mul div neg lt le eq of_int of_bits
of_a_year = (refl, refl, refl, refl)

-- from a 30th to the 31st no day is counted: neither leg pays, and no rate is par
pub of_a_day : (fixed_leg_pv (Dated a_day) tenors zeros ≡ accepted y100)
    × (floating_leg_pv (Dated a_day) tenors zeros ≡ accepted y100)
    × (par_swap_rate (Dated a_day) tenors zeros ≡ accepted nan)
unfolding fixed_leg_pv floating_leg_pv swap_npv par_swap_rate fixed_leg floating_leg net_value par_rate_of annuity fixed_term floating_term forward annuity_term counted fixed_payment factor_at last_factor added_up terms_of of_dates span_of too_many_dated time_to dated_fraction days_by day_fraction discount_of zero_rate_of flat_outside segment_ending period_count whole_periods bound uncut months_later day_in_month month_index is_after is_date days_in days_in_year leap day_number days_before_year days_before_month total actual_days thirty_days first_day_of second_day_of exp exp_of exp_not_above exp_within reduced two_to halvings below inverse_factorial factorial horner absolute nearest_whole judged first_or bad_amount unequal bad_knot_count bad_knot bad_knots_after bad_knots too_many_periods bad_frequency bad_dated_frequency bad_number no_such_date bad_dates add sub mul div neg lt le eq of_int of_bits
of_a_day = (refl, refl, refl)

-- a second date that is not after the first, no such date, payments that do not divide 12, and a month more than 1,200 of them
pub refusals : (fixed_leg_pv (Dated (swap 2 (on 31 1 2023) (on 31 1 2023))) tenors zeros ≡ refused 15 0)
    × (fixed_leg_pv (Dated (swap 2 (on 31 1 2023) (on 29 2 2023))) tenors zeros ≡ refused 15 0)
    × (fixed_leg_pv (Dated (swap 5 (on 31 1 2023) (on 31 1 2024))) tenors zeros ≡ refused 8 0)
    × (fixed_leg_pv (Dated (swap 12 (on 31 1 2023) (on 28 2 2123))) tenors zeros ≡ refused 7 0)
unfolding fixed_leg_pv floating_leg_pv swap_npv par_swap_rate fixed_leg floating_leg net_value par_rate_of annuity fixed_term floating_term forward annuity_term counted fixed_payment factor_at last_factor added_up terms_of of_dates span_of too_many_dated time_to dated_fraction days_by day_fraction discount_of zero_rate_of flat_outside segment_ending period_count whole_periods bound uncut months_later day_in_month month_index is_after is_date days_in days_in_year leap day_number days_before_year days_before_month total actual_days thirty_days first_day_of second_day_of exp exp_of exp_not_above exp_within reduced two_to halvings below inverse_factorial factorial horner absolute nearest_whole judged first_or bad_amount unequal bad_knot_count bad_knot bad_knots_after bad_knots too_many_periods bad_frequency bad_dated_frequency bad_number no_such_date bad_dates add sub mul div neg lt le eq of_int of_bits
refusals = (refl, refl, refl, refl)

-- ---- fractions of a year: 28/360, 28/360 and 28/365, and the time 28/365; of a quarter from the same date 90/360 by dates, and 91/360 by document 01's rule
pub to_february :
    map (λ (d : DayCount). to_bits binary64 (dated_fraction d (on 31 1 2023) (on 28 2 2023))) (Thirty360 ∷ Actual360 ∷ Actual365 ∷ [])
    ≡ 0x3fb3_e93e_93e9_3e94 ∷ 0x3fb3_e93e_93e9_3e94 ∷ 0x3fb3_a36b_4f41_3a37 ∷ []
unfolding dated_fraction days_by day_fraction day_number days_before_year days_before_month total days_in_year days_in leap actual_days thirty_days first_day_of second_day_of div of_int of_bits to_bits
to_february = refl

pub time_to_february : to_bits binary64 (time_to (on 31 1 2023) (on 28 2 2023)) ≡ 0x3fb3_a36b_4f41_3a37
unfolding time_to day_fraction day_number days_before_year days_before_month total days_in_year days_in leap actual_days div of_int of_bits to_bits
time_to_february = refl

pub of_a_quarter : (dated_fraction Thirty360 (on 31 1 2023) (on 30 4 2023) ≡ of_bits binary64 0x3fd0_0000_0000_0000) × (to_bits binary64 (day_fraction Thirty360 91) ≡ 0x3fd0_2d82_d82d_82d8)
unfolding dated_fraction days_by day_fraction thirty_days first_day_of second_day_of div of_int of_bits to_bits
of_a_quarter = (refl, refl)
