-- A dated swap whose frequency and dates have no cause of refusal has periods: its span is one; and a span's frequency is no 0. Assumes nothing.
use mathlib.Core.Path.{◌≡◌, refl, sym, ap, ◌∙◌}
use mathlib.Core.Bool.{Bool, true, false, not, ◌&&◌, ◌||◌}
use Prim.Native.Nat.{ℕ, zero, suc, ◌+◌, ◌*◌, ◌/◌, ◌%◌, ◌≤◌, ◌<◌}
use native.Mathlib.Nat.{mod-add-div', div-le_self}
use native.Mathlib.Omega.{arith}
use lib.Dec.{leb, ltb, eqb}
use borrow.Author.Tests.{not-false, eqb-true, eqb-false, le-leb}
use Rattle.refusals.specs.Table.{bad_frequency, bad_dated_frequency, no_such_date, bad_dates, too_many_periods}
use Rattle.dates.specs.declared.Date.{Date}
use Rattle.dates.specs.Calendar.{is_date, is_after}
use Rattle.dates.specs.Periods.{is_span, period_count}
use Rattle.dates.proofs.Tests.{both, joined}
use Rattle.dates.proofs.Tiling.{span_parts}
use Rattle.swaps.specs.declared.DatedSwap.{DatedSwap}
use Rattle.swaps.specs.DatedSwap.{span_of, too_many_dated}

-- of two causes neither is there
pub neither : (a b : Bool) → (a || b) ≡ false → (a ≡ false) × (b ≡ false)
neither true b e = absurd (let z : ◌≡◌ {A = ℕ} 0 1 = cc in omega arith)
neither false b e = (refl, e)

-- ---- a number that divides 12 does so once or more
once_or_more : (q f : ℕ) → 0 + q * f ≡ 12 → 1 ≤ q
once_or_more zero f e = absurd (omega arith)
once_or_more (suc q) f e = omega arith

-- a frequency that has no cause is no 0
pub frequency_above_0 : (f : ℕ) {t : Bool} → t ≡ bad_frequency f → t ≡ false → 0 < f
unfolding bad_frequency
frequency_above_0 f e h = let n = eqb-false f 0 (neither (eqb f 0) (ltb 365 f) (sym e ∙ h)).0 in omega arith

divides : (f : ℕ) → bad_dated_frequency f ≡ false → 12 % f ≡ 0
unfolding bad_dated_frequency
divides f h = eqb-true (12 % f) 0 (not-false (eqb (12 % f) 0) (neither (bad_frequency f) (not (eqb (12 % f) 0)) h).1)

months_low : (f : ℕ) → bad_dated_frequency f ≡ false → 1 ≤ 12 / f
months_low f h = once_or_more (12 / f) f (ap (λ (r : ℕ). r + 12 / f * f) (sym (divides f h)) ∙ mod-add-div' 12 f)

-- ---- two dates that have no cause
pub dates_clear : (a b c : Bool) → bad_dates a b c ≡ false → ((a && b) ≡ true) × (c ≡ true)
unfolding bad_dates no_such_date
dates_clear a b c h = let n = neither (not (a && b)) (not c) h in (not-false (a && b) n.0, not-false c n.1)

pub both_are_dates : (first second : Date) → bad_dates (is_date first) (is_date second) (is_after first second) ≡ false → (is_date first ≡ true) × (is_date second ≡ true)
both_are_dates first second h = both (is_date first) (is_date second) (dates_clear (is_date first) (is_date second) (is_after first second) h).0

module _ (s : DatedSwap) where
  abbrev pub dates_cause : Bool
  dates_cause = bad_dates (is_date s.first) (is_date s.second) (is_after s.first s.second)

  pub has_span : bad_dated_frequency s.frequency ≡ false → dates_cause ≡ false → is_span (span_of s) ≡ true
  unfolding is_span span_of
  has_span f d =
      let n = dates_clear (is_date s.first) (is_date s.second) (is_after s.first s.second) d in
      let m = joined (leb 1 (12 / s.frequency)) (leb (12 / s.frequency) 12) (le-leb 1 (12 / s.frequency) (months_low s.frequency f)) (le-leb (12 / s.frequency) 12 (div-le_self 12 s.frequency)) in
      joined ((is_date s.first && is_date s.second) && is_after s.first s.second) (leb 1 (12 / s.frequency) && leb (12 / s.frequency) 12) (joined (is_date s.first && is_date s.second) (is_after s.first s.second) n.0 n.1) m

  -- ---- what line 7 asks, in the order in which it is worked out
  pub none_by_frequency : bad_dated_frequency s.frequency ≡ true → false ≡ too_many_dated s
  unfolding too_many_dated
  none_by_frequency f = rw f

  pub none_by_dates : bad_dated_frequency s.frequency ≡ false → dates_cause ≡ true → false ≡ too_many_dated s
  unfolding too_many_dated
  none_by_dates f d = rw (f, d)

  pub by_count : bad_dated_frequency s.frequency ≡ false → dates_cause ≡ false → too_many_periods (period_count (span_of s)) ≡ too_many_dated s
  unfolding too_many_dated
  by_count f d = rw (f, d)

module _ (s : DatedSwap) (e : is_span (span_of s) ≡ true) where
  pub frequency_low : 1 ≤ s.frequency
  unfolding span_of
  frequency_low = some s.frequency (span_parts (span_of s) e).step_low
    where
      some : (f : ℕ) → 1 ≤ 12 / f → 1 ≤ f
      some zero h = h
      some (suc f) h = omega arith

  pub first_is_date : is_date s.first ≡ true
  unfolding span_of
  first_is_date = (span_parts (span_of s) e).first_is_date

  pub second_is_date : is_date s.second ≡ true
  unfolding span_of
  second_is_date = (span_parts (span_of s) e).second_is_date
