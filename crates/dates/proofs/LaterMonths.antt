-- A date in a month of such an index: it has that index, its rank is the month's and a day's from 1 to 31, and no months later a date is itself. Assumes nothing.
use mathlib.Core.Path.{◌≡◌, ap, ◌∙◌}
use mathlib.Core.Bool.{true}
use Prim.Native.Nat.{ℕ, suc, ◌+◌, ◌-◌, ◌*◌, ◌/◌, ◌%◌, ◌≤◌, min}
use native.Mathlib.Omega.{arith}
use Rattle.dates.specs.declared.Date.{Date}
use Rattle.dates.specs.Calendar.{days_in, is_date}
use Rattle.dates.specs.Months.{month_index, day_in_month, months_later}
use Rattle.dates.specs.inner.Ranks.{rank}
use Rattle.dates.proofs.Parts.{parts, of_parts, days_in_bounds}
use Rattle.dates.proofs.Ranks.{Shaped}

-- the last day of a month, by its index
abbrev pub last_day : ℕ → ℕ
last_day index = days_in (index / 12) (suc (index % 12))

pub last_day_bounds : (index : ℕ) → (28 ≤ last_day index) × (last_day index ≤ 31)
last_day_bounds index = days_in_bounds (index / 12) (suc (index % 12))

pub in_month_index : (index day : ℕ) → month_index (day_in_month index day) ≡ index
unfolding month_index day_in_month
in_month_index index day = omega arith

pub in_month_rank : (index day : ℕ) → rank (day_in_month index day) ≡ index * 32 + min day (last_day index)
unfolding day_in_month
in_month_rank index day = split index (min day (last_day index))
  where
    split : (index d : ℕ) → (index / 12 * 12 + (suc (index % 12) - 1)) * 32 + d ≡ index * 32 + d
    split index d = omega arith

pub in_month_shaped : (index day : ℕ) → 1 ≤ day → Shaped (day_in_month index day)
unfolding day_in_month
in_month_shaped index day h =
    let b = last_day_bounds index in
    record { month_low = omega arith; month_high = omega arith; day_low = omega arith; day_high = omega arith }

-- from 1900 to 2199
pub in_month_date : (index day : ℕ) → 22800 ≤ index → index ≤ 26399 → 1 ≤ day → is_date (day_in_month index day) ≡ true
unfolding day_in_month
in_month_date index day low high h =
    let b = last_day_bounds index in
    of_parts (day_in_month index day)
    (record { not_early = omega arith; not_late = omega arith; month_low = omega arith; month_high = omega arith; day_low = omega arith; day_high = omega arith })

pub index_bounds : (d : Date) → is_date d ≡ true → (22800 ≤ month_index d) × (month_index d ≤ 26399)
unfolding month_index
index_bounds d e = let p = parts d e in (omega arith, omega arith)

pub no_months_later : (d : Date) → is_date d ≡ true → months_later 0 d ≡ d
unfolding months_later day_in_month month_index
no_months_later d e =
    let p = parts d e in
    let i = month_index d + 0 in
    let y : (d.year * 12 + (d.month - 1) + 0) / 12 ≡ d.year = year_of_lem d.year d.month p.month_low p.month_high in
    let m : suc ((d.year * 12 + (d.month - 1) + 0) % 12) ≡ d.month = month_of_lem d.year d.month p.month_low p.month_high in
    ap (λ (u : ℕ). record { year = u; month = suc (i % 12); day = min d.day (days_in u (suc (i % 12))) }) y
    ∙ ap (λ (u : ℕ). record { year = d.year; month = u; day = min d.day (days_in d.year u) }) m
    ∙ ap (λ (u : ℕ). record { year = d.year; month = d.month; day = u }) (cut d.day (days_in d.year d.month) p.day_high)
  where
    year_of_lem : (y m : ℕ) → 1 ≤ m → m ≤ 12 → (y * 12 + (m - 1) + 0) / 12 ≡ y
    year_of_lem y m low high = omega arith

    month_of_lem : (y m : ℕ) → 1 ≤ m → m ≤ 12 → suc ((y * 12 + (m - 1) + 0) % 12) ≡ m
    month_of_lem y m low high = omega arith

    cut : (k last : ℕ) → k ≤ last → min k last ≡ k
    cut k last h = omega arith
