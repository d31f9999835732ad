-- The 30/360 count of a later date is not cut off at 0, is 0 only from the 30th to the 31st of one month, and is 30 for each month of a whole period that starts on a day to 28. Assumes nothing.
use mathlib.Core.Path.{◌≡◌, refl, ◌∙◌}
use mathlib.Core.Logic.{◌⊎◌, inl, inr, ⊎_elim, ◌↔◌}
use mathlib.Core.Bool.{Bool, true, false, cond, ◌&&◌}
use Prim.Native.Nat.{ℕ, suc, ◌+◌, ◌-◌, ◌*◌, ◌≤◌, ◌<◌, min}
use native.Mathlib.Omega.{arith}
use lib.Dec.{eqb}
use borrow.Author.Tests.{eqb-true, eqb-false}
use Rattle.dates.specs.declared.Date.{Date}
use Rattle.dates.specs.declared.periods.Span.{Span}
use Rattle.dates.specs.Calendar.{is_date, is_after}
use Rattle.dates.specs.Counts.{first_day_of, second_day_of, thirty_days}
use Rattle.dates.specs.Months.{month_index, day_in_month, months_later}
use Rattle.dates.specs.Periods.{uncut}
use Rattle.dates.proofs.Ranks.{shaped, after_rank}
use Rattle.dates.proofs.LaterMonths.{last_day, last_day_bounds}

-- ---- how the two days are read
abbrev FirstRead : ℕ → ℕ → Type 0
FirstRead k read = ((k ≡ 31) × (read ≡ 30)) ⊎ ((k ≡ 31 → ⊥) × (read ≡ k))

abbrev SecondRead : ℕ → ℕ → ℕ → Type 0
SecondRead first l read = ((l ≡ 31) × (first ≡ 30) × (read ≡ 30)) ⊎ (((l ≡ 31) × (first ≡ 30) → ⊥) × (read ≡ l))

first_read : (a : Date) → FirstRead a.day (first_day_of a)
unfolding first_day_of
first_read a = go a.day (eqb a.day 31) refl
  where
    go : (k : ℕ) (t : Bool) → eqb k 31 ≡ t → FirstRead k (cond t 30 k)
    go k true e = inl (eqb-true k 31 e, refl)
    go k false e = inr (eqb-false k 31 e, refl)

second_read : (a b : Date) → SecondRead (first_day_of a) b.day (second_day_of a b)
unfolding second_day_of
second_read a b = go (first_day_of a) b.day (eqb b.day 31) (eqb (first_day_of a) 30) refl refl
  where
    go : (f l : ℕ) (t u : Bool) → eqb l 31 ≡ t → eqb f 30 ≡ u → SecondRead f l (cond (t && u) 30 l)
    go f l true true e g = inl (eqb-true l 31 e, eqb-true f 30 g, refl)
    go f l true false e g = inr (λ w. eqb-false f 30 g w.1, refl)
    go f l false u e g = inr (λ w. eqb-false l 31 e w.0, refl)

-- ---- over plain numbers: two dates in order, and their days as they are read
module _ (y m k z n l f g : ℕ) (a : 1 ≤ m) (b : m ≤ 12) (c : k ≤ 31) (d : 1 ≤ n) (e : n ≤ 12) (h : l ≤ 31) (i : 1 ≤ k) (j : 1 ≤ l)
    (before : (y * 12 + (m - 1)) * 32 + k < (z * 12 + (n - 1)) * 32 + l) where
  reads_on : FirstRead k f → SecondRead f l g → 360 * y + 30 * m + f ≤ 360 * z + 30 * n + g
  reads_on (inl p) (inl q) = omega arith
  reads_on (inl p) (inr q) = omega arith
  reads_on (inr p) (inl q) = omega arith
  reads_on (inr p) (inr q) = omega arith

  reads_nothing : FirstRead k f → SecondRead f l g → 360 * z + 30 * n + g ≡ 360 * y + 30 * m + f → (y ≡ z) × (m ≡ n) × (k ≡ 30) × (l ≡ 31)
  reads_nothing r r' w =
      let one : y * 12 + (m - 1) ≡ z * 12 + (n - 1) = one_month (y * 12 + (m - 1)) (z * 12 + (n - 1)) k l f g c h i j before (first_low r) (second_low r') (omega arith) in
      ends one r r'
    where
      one_month : (p q k l f g : ℕ) → k ≤ 31 → l ≤ 31 → 1 ≤ k → 1 ≤ l → p * 32 + k < q * 32 + l → f ≤ 30 → 1 ≤ g → 30 * q + g ≡ 30 * p + f → p ≡ q
      one_month p q k l f g a b c d e u v w = omega arith

      first_low : FirstRead k f → f ≤ 30
      first_low (inl p) = omega arith
      first_low (inr p) = omega arith

      second_low : SecondRead f l g → 1 ≤ g
      second_low (inl p) = omega arith
      second_low (inr p) = omega arith

      ends : y * 12 + (m - 1) ≡ z * 12 + (n - 1) → FirstRead k f → SecondRead f l g → (y ≡ z) × (m ≡ n) × (k ≡ 30) × (l ≡ 31)
      ends one (inl p) q = absurd (omega arith)
      ends one (inr p) (inl q) = (omega arith, omega arith, omega arith, omega arith)
      ends one (inr p) (inr q) = absurd (omega arith)

module _ (a b : Date) (e : is_date a ≡ true) (f : is_date b ≡ true) (after : is_after a b ≡ true) where
  -- nothing is cut off at 0
  pub not_cut_off : 360 * a.year + 30 * a.month + first_day_of a ≤ 360 * b.year + 30 * b.month + second_day_of a b
  not_cut_off =
      let s = shaped a e in
      let t = shaped b f in
      reads_on a.year a.month a.day b.year b.month b.day (first_day_of a) (second_day_of a b)
      s.month_low s.month_high s.day_high t.month_low t.month_high t.day_high s.day_low t.day_low
      (after_rank a b s t after) (first_read a) (second_read a b)

  pub nothing_exactly : (thirty_days a b ≡ 0) ↔ ((a.year ≡ b.year) × (a.month ≡ b.month) × (a.day ≡ 30) × (b.day ≡ 31))
  unfolding thirty_days
  nothing_exactly = (there, back)
    where
      there : (360 * b.year + 30 * b.month + second_day_of a b) - (360 * a.year + 30 * a.month + first_day_of a) ≡ 0
          → (a.year ≡ b.year) × (a.month ≡ b.month) × (a.day ≡ 30) × (b.day ≡ 31)
      there z =
          let s = shaped a e in
          let t = shaped b f in
          let level : 360 * b.year + 30 * b.month + second_day_of a b ≡ 360 * a.year + 30 * a.month + first_day_of a = (let n = not_cut_off in omega arith) in
          reads_nothing a.year a.month a.day b.year b.month b.day (first_day_of a) (second_day_of a b)
          s.month_low s.month_high s.day_high t.month_low t.month_high t.day_high s.day_low t.day_low
          (after_rank a b s t after) (first_read a) (second_read a b) level

      back : (a.year ≡ b.year) × (a.month ≡ b.month) × (a.day ≡ 30) × (b.day ≡ 31)
          → (360 * b.year + 30 * b.month + second_day_of a b) - (360 * a.year + 30 * a.month + first_day_of a) ≡ 0
      back w =
          let p : first_day_of a ≡ 30 = ⊎_elim (λ u. u.1) (λ u. u.1 ∙ w.2) (first_read a) in
          let q : second_day_of a b ≡ 30 = ⊎_elim (λ u. u.2) (λ u. absurd (u.0 (w.3, p))) (second_read a b) in
          omega arith

-- ---- whole periods
months_of_lem : (i k : ℕ) → 360 * (day_in_month i k).year + 30 * (day_in_month i k).month ≡ 30 * i + 30
unfolding day_in_month
months_of_lem i k = omega arith

module _ (k : ℕ) (low : k ≤ 28) where
  uncut_day : (i : ℕ) → min k (last_day i) ≡ k
  uncut_day i = let b = last_day_bounds i in omega arith

  day_kept : (i : ℕ) → (day_in_month i k).day ≡ k
  unfolding day_in_month
  day_kept i = uncut_day i

  first_kept : (i : ℕ) → first_day_of (day_in_month i k) ≡ k
  first_kept i = ⊎_elim (λ u. absurd (let d = day_kept i in let v = u.0 in omega arith)) (λ u. u.1 ∙ day_kept i) (first_read (day_in_month i k))

  second_kept : (i j : ℕ) → second_day_of (day_in_month i k) (day_in_month j k) ≡ k
  second_kept i j = ⊎_elim (λ u. absurd (let d = day_kept j in let v = u.0 in omega arith)) (λ u. u.1 ∙ day_kept j) (second_read (day_in_month i k) (day_in_month j k))

  thirty_each : (i j : ℕ) → thirty_days (day_in_month i k) (day_in_month j k) ≡ 30 * j - 30 * i
  unfolding thirty_days
  thirty_each i j =
      let f = first_kept i in
      let g = second_kept i j in
      let a = months_of_lem i k in
      let b = months_of_lem j k in
      omega arith

-- "each whole period counts 30 for each of its months", from a first day to 28
pub whole_period : (s : Span) → s.first.day ≤ 28 → (i : ℕ) → thirty_days (uncut s i) (uncut s (suc i)) ≡ 30 * s.step
unfolding uncut months_later
whole_period s low i =
    thirty_each s.first.day low (month_index s.first + i * s.step) (month_index s.first + suc i * s.step) ∙ apart (month_index s.first) i s.step
  where
    apart : (m i step : ℕ) → 30 * (m + suc i * step) - 30 * (m + i * step) ≡ 30 * step
    apart m i step = omega arith
