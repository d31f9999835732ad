-- Dates by their ranks: the date of a rank; and the ranks of a span's bounds, as the code works them out. Assumes nothing.
use mathlib.Core.Path.{◌≡◌, ap, ◌∙◌}
use mathlib.Core.Logic.{⊎_elim}
use mathlib.Core.Bool.{true}
use Prim.Native.Nat.{ℕ, suc, ◌+◌, ◌-◌, ◌*◌, ◌/◌, ◌%◌, ◌≤◌, ◌<◌, min}
use native.Mathlib.Omega.{arith}
use lib.Dec.{leb}
use borrow.Author.Tests.{leb-true, leb-false}
use Rattle.dates.specs.declared.Date.{Date}
use Rattle.dates.specs.declared.periods.Span.{Span}
use Rattle.dates.specs.Calendar.{days_in, is_date}
use Rattle.dates.specs.Months.{month_index}
use Rattle.dates.specs.Periods.{is_span, uncut, bound, period_count}
use Rattle.dates.specs.inner.Ranks.{rank, date_of}
use Rattle.dates.proofs.Tests.{decided, clash}
use Rattle.dates.proofs.Ranks.{Shaped, shaped, rank_by_index}
use Rattle.dates.proofs.LaterMonths.{last_day, index_bounds}
use Rattle.dates.proofs.Tiling.{span_parts, uncut_rank, second_later, second_month_after, before_last, from_last, bound_is_date}

-- ---- a date has its rank, and a rank its date
pub of_rank : (d : Date) → Shaped d → date_of (rank d) ≡ d
unfolding date_of
of_rank d s =
    ap (λ (u : ℕ). record { year = u; month = suc (rank d / 32 % 12); day = rank d % 32 }) (year_of_lem d.year d.month d.day s.month_low s.month_high s.day_high)
    ∙ ap (λ (u : ℕ). record { year = d.year; month = u; day = rank d % 32 }) (month_of_lem d.year d.month d.day s.month_low s.month_high s.day_high)
    ∙ ap (λ (u : ℕ). record { year = d.year; month = d.month; day = u }) (day_of d.year d.month d.day s.month_low s.month_high s.day_high)
  where
    year_of_lem : (y m k : ℕ) → 1 ≤ m → m ≤ 12 → k ≤ 31 → ((y * 12 + (m - 1)) * 32 + k) / 32 / 12 ≡ y
    year_of_lem y m k a b c = omega arith

    month_of_lem : (y m k : ℕ) → 1 ≤ m → m ≤ 12 → k ≤ 31 → suc (((y * 12 + (m - 1)) * 32 + k) / 32 % 12) ≡ m
    month_of_lem y m k a b c = omega arith

    day_of : (y m k : ℕ) → 1 ≤ m → m ≤ 12 → k ≤ 31 → ((y * 12 + (m - 1)) * 32 + k) % 32 ≡ k
    day_of y m k a b c = omega arith

-- the months of a rank are those from January 1900 to December 2199
abbrev pub InYears : ℕ → Type 0
InYears r = (22800 ≤ r / 32) × (r / 32 ≤ 26399)

pub rank_in_years : (d : Date) → is_date d ≡ true → InYears (rank d)
rank_in_years d e =
    let r = rank_by_index d in
    let b = index_bounds d e in
    let k = (shaped d e).day_high in
    (omega arith, omega arith)

-- ---- the bounds of a span
module _ (s : Span) (e : is_span s ≡ true) where
  pub bound_of_rank : (i : ℕ) → date_of (rank (bound s i)) ≡ bound s i
  bound_of_rank i = of_rank (bound s i) (shaped (bound s i) (bound_is_date s e i))

  pub bound_in_years : (i : ℕ) → InYears (rank (bound s i))
  bound_in_years i = rank_in_years (bound s i) (bound_is_date s e i)

  pub second_index : (index : ℕ) → index ≡ month_index s.second → index ≤ 26399
  second_index index its = let b = index_bounds s.second (span_parts s e).second_is_date in omega arith

  -- before the last, the month is none after the second date's
  pub index_within : (i index : ℕ) → index ≡ month_index s.first → i < period_count s → index + i * s.step ≤ 26399
  index_within i index its h =
      let b = index_bounds s.second (span_parts s e).second_is_date in
      let l : month_index s.first + i * s.step ≤ month_index s.second =
      ⊎_elim (λ t. leb-true _ _ t) (λ t. absurd (clash (second_later s e i h) (second_month_after s e i (leb-false _ _ t)))) (decided (leb (month_index s.first + i * s.step) (month_index s.second))) in
      omega arith

  pub rank_from_last : (i index : ℕ) → index ≡ month_index s.second → period_count s ≤ i → 32 * index + s.second.day ≡ rank (bound s i)
  rank_from_last i index its h =
      let r = rank_by_index s.second in
      let b : rank (bound s i) ≡ rank s.second = ap rank (from_last s e i h) in
      omega arith

  pub rank_before_last : (i index last day : ℕ) → index ≡ month_index s.first → i < period_count s → last ≡ days_in ((index + i * s.step) / 12) ((index + i * s.step) % 12 + 1) → day ≡ min s.first.day last
      → 32 * (index + i * s.step) + day ≡ rank (bound s i)
  rank_before_last i index last day its h is cut =
      let r = uncut_rank s e i in
      let b : rank (bound s i) ≡ rank (uncut s i) = ap rank (before_last s e i h) in
      let n : index + i * s.step ≡ month_index s.first + i * s.step = omega arith in
      let l : last ≡ last_day (month_index s.first + i * s.step) = is ∙ ap (days_in ((index + i * s.step) / 12)) (next ((index + i * s.step) % 12)) ∙ ap last_day n in
      omega arith
    where
      next : (n : ℕ) → n + 1 ≡ suc n
      next n = omega arith
