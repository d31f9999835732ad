-- The number of periods as the code works it out, from an index that is a month's. Assumes nothing.
use mathlib.Core.Path.{◌≡◌, sym, ap, ◌∙◌}
use mathlib.Core.Bool.{Bool, true, false, cond}
use Prim.Native.Nat.{ℕ, suc, ◌+◌, ◌-◌, ◌*◌, ◌/◌, ◌<◌}
use native.Mathlib.Omega.{arith}
use Rattle.dates.specs.declared.Date.{Date}
use Rattle.dates.specs.declared.periods.Span.{Span}
use Rattle.dates.specs.Calendar.{is_after}
use Rattle.dates.specs.Months.{month_index, day_in_month, months_later}
use Rattle.dates.specs.Periods.{is_span, uncut, whole_periods, period_count}
use Rattle.dates.proofs.LaterMonths.{index_bounds}
use Rattle.dates.proofs.Tiling.{span_parts, whole_low}

module _ (s : Span) (i index : ℕ) (its : index ≡ month_index s.first) (d : Date) (made : d ≡ day_in_month (index + i * s.step) s.first.day) where
  is_uncut : uncut s i ≡ d
  unfolding uncut months_later
  is_uncut = sym (made ∙ ap (λ (k : ℕ). day_in_month (k + i * s.step) s.first.day) its)

  module _ (whole : i ≡ whole_periods s) where
    whole_is : uncut s (whole_periods s) ≡ d
    whole_is = ap (uncut s) (sym whole) ∙ is_uncut

    pub one_more : is_after d s.second ≡ true → i + 1 ≡ period_count s
    unfolding period_count
    one_more h =
        let e : i + 1 ≡ suc i = omega arith in
        e ∙ ap suc whole ∙ sym (ap (λ (t : Bool). cond t (suc (whole_periods s)) (whole_periods s)) (ap (λ (u : Date). is_after u s.second) whole_is ∙ h))

    pub no_more : is_after d s.second ≡ false → i ≡ period_count s
    unfolding period_count
    no_more h = whole ∙ sym (ap (λ (t : Bool). cond t (suc (whole_periods s)) (whole_periods s)) (ap (λ (u : Date). is_after u s.second) whole_is ∙ h))

pub is_whole : (s : Span) (months : ℕ) → months ≡ month_index s.second - month_index s.first → months / s.step ≡ whole_periods s
unfolding whole_periods
is_whole s months e = ap (λ (k : ℕ). k / s.step) e

module _ (s : Span) (e : is_span s ≡ true) where
  -- no index of the whole periods is after December 2199
  pub whole_within : (i index : ℕ) → index ≡ month_index s.first → i ≡ whole_periods s → 26399 < index + i * s.step → ⊥
  whole_within i index its w h =
      let b = index_bounds s.second (span_parts s e).second_is_date in
      let l = whole_low s e in
      let m : i * s.step ≡ whole_periods s * s.step = ap (λ (k : ℕ). k * s.step) w in
      omega arith
