-- Every entry point refuses by the table's rule: number k at place p is given exactly when that is the lowest line with a cause and its first place. Assumes nothing.
use mathlib.Core.Path.{◌≡◌}
use mathlib.Core.Logic.{◌↔◌}
use mathlib.Core.Bool.{Bool}
use mathlib.Core.List.{List, [], ◌∷◌}
use Prim.Native.Nat.{ℕ, ◌≤◌, min}
use lib.ListN.{length}
use lib.Ieee.{Float}
use Rattle.numbers.specs.Whole.{largest}
use lib.Dec.{T}
use Rattle.refusals.specs.Outcome.{refused, line, Lowest, ExactlyWhen, above, rising}
use Rattle.refusals.specs.Table.{bad_code}
use Rattle.refusals.proofs.Judging.{exactly}
use Rattle.refusals.proofs.Verdicts.{verdict}
use Rattle.curves.specs.Curve.{asked_lines}
use Rattle.curves.specs.Lists.{each_lines, each_outcome}
use Rattle.curves.proofs.Exactly as of_a_curve
use Rattle.dates.specs.declared.Date.{Date}
use Rattle.dates.specs.Answers.{dates_line}
use Rattle.swaps.specs.declared.DatedSwap.{DatedSwap}
use Rattle.swaps.specs.declared.AnySwap.{AnySwap}
use Rattle.swaps.specs.declared.AnySwap.TheVariants.{Undated, Dated}
use Rattle.swaps.specs.declared.day_counts.DayCount.{DayCount}
use Rattle.swaps.specs.DayCounts.{dated_fraction_of}
use Rattle.swaps.specs.Codes.{last_code, day_count_of}
use Rattle.swaps.specs.Discount.{rate_at, discount_factor}
use Rattle.swaps.specs.Bootstrap.{par_lines, from_par_rates}
use Rattle.swaps.specs.DatedSwap.{uncoded_dated_lines}
use Rattle.swaps.specs.Periods.{lines_of}
use Rattle.swaps.specs.Valuation.{fixed_leg_pv, floating_leg_pv, swap_npv, par_swap_rate, swap_dv01, swap_duration, value_swap}

pub code_refused_exactly : (code : ℕ) → ExactlyWhen (line 11 (bad_code last_code code) ∷ []) (day_count_of code)
unfolding day_count_of above
code_refused_exactly code = exactly _ (line 11 (bad_code last_code code) ∷ []) tt

pub fraction_refused_exactly : (d : DayCount) (first second : Date) → ExactlyWhen (dates_line first second ∷ []) (dated_fraction_of d first second)
unfolding dated_fraction_of above
fraction_refused_exactly d first second = exactly _ (dates_line first second ∷ []) tt

module _ (tenors zeros : List Float) where
  pub rate_refused_exactly : (t : Float) → ExactlyWhen (asked_lines tenors zeros t) (rate_at tenors zeros t)
  unfolding rate_at above
  rate_refused_exactly t = exactly _ (asked_lines tenors zeros t) tt

  pub discount_refused_exactly : (t : Float) → ExactlyWhen (asked_lines tenors zeros t) (discount_factor tenors zeros t)
  unfolding discount_factor above
  discount_refused_exactly t = exactly _ (asked_lines tenors zeros t) tt

  -- a list of times: `rate_at_each` and `discount_factor_at_each` give the one outcome of any curve
  module _ (asked : List Float) where
    pub each_refused_exactly : length asked ≤ 4294967295 → ExactlyWhen (each_lines tenors zeros asked) (each_outcome tenors zeros asked)
    each_refused_exactly = of_a_curve.each_refused_exactly tenors zeros asked

    pub each_refused_at : (k p : ℕ) → (each_outcome tenors zeros asked ≡ refused k p) ↔ ((q : ℕ) × Lowest (each_lines tenors zeros asked) k q × (p ≡ min q largest))
    each_refused_at = of_a_curve.each_refused_at tenors zeros asked

-- the verdict of a bootstrap, and its zero rates
pub bootstrap_refused_exactly : (tenors pars : List Float) → ExactlyWhen (par_lines tenors pars) (from_par_rates tenors pars)
unfolding from_par_rates above
bootstrap_refused_exactly tenors pars = exactly _ (par_lines tenors pars) tt

-- ---- the lines of a swap of either kind
in_order : (s : AnySwap) (tenors zeros : List Float) → T (rising (lines_of s tenors zeros))
unfolding above
in_order (Undated s) tenors zeros = tt
in_order (Dated s) tenors zeros = tt

-- the verdict on one, and on a dated one before its dates are asked about
pub swap_judged_exactly : (s : AnySwap) (tenors zeros : List Float) → ExactlyWhen (lines_of s tenors zeros) (verdict (lines_of s tenors zeros))
swap_judged_exactly s tenors zeros = exactly tt (lines_of s tenors zeros) (in_order s tenors zeros)

pub but_dates_judged_exactly : (s : DatedSwap) (tenors zeros : List Float) → ExactlyWhen (uncoded_dated_lines s tenors zeros) (verdict (uncoded_dated_lines s tenors zeros))
unfolding above
but_dates_judged_exactly s tenors zeros = exactly tt (uncoded_dated_lines s tenors zeros) tt

module _ (s : AnySwap) (tenors zeros : List Float) where
  pub fixed_leg_refused_exactly : ExactlyWhen (lines_of s tenors zeros) (fixed_leg_pv s tenors zeros)
  unfolding fixed_leg_pv
  fixed_leg_refused_exactly = exactly _ (lines_of s tenors zeros) (in_order s tenors zeros)

  pub floating_leg_refused_exactly : ExactlyWhen (lines_of s tenors zeros) (floating_leg_pv s tenors zeros)
  unfolding floating_leg_pv
  floating_leg_refused_exactly = exactly _ (lines_of s tenors zeros) (in_order s tenors zeros)

  pub par_rate_refused_exactly : ExactlyWhen (lines_of s tenors zeros) (par_swap_rate s tenors zeros)
  unfolding par_swap_rate
  par_rate_refused_exactly = exactly _ (lines_of s tenors zeros) (in_order s tenors zeros)

  pub duration_refused_exactly : ExactlyWhen (lines_of s tenors zeros) (swap_duration s tenors zeros)
  unfolding swap_duration
  duration_refused_exactly = exactly _ (lines_of s tenors zeros) (in_order s tenors zeros)

  module _ (receives_fixed : Bool) where
    pub npv_refused_exactly : ExactlyWhen (lines_of s tenors zeros) (swap_npv s tenors zeros receives_fixed)
    unfolding swap_npv
    npv_refused_exactly = exactly _ (lines_of s tenors zeros) (in_order s tenors zeros)

    pub dv01_refused_exactly : ExactlyWhen (lines_of s tenors zeros) (swap_dv01 s tenors zeros receives_fixed)
    unfolding swap_dv01
    dv01_refused_exactly = exactly _ (lines_of s tenors zeros) (in_order s tenors zeros)

    pub value_refused_exactly : ExactlyWhen (lines_of s tenors zeros) (value_swap s tenors zeros receives_fixed)
    unfolding value_swap
    value_refused_exactly = exactly _ (lines_of s tenors zeros) (in_order s tenors zeros)
