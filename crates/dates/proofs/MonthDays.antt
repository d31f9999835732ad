-- The days of a year's months before a month: one month's more with each, by turns 30 and 31 with two or one fewer behind February, and a year's before a thirteenth. Assumes nothing.
use mathlib.Core.Path.{◌≡◌, refl, ap, ◌∙◌}
use mathlib.Core.Logic.{⊎_elim}
use mathlib.Core.Bool.{Bool, true, false, cond, ◌||◌}
use Prim.Native.Nat.{ℕ, zero, suc, ◌+◌, ◌-◌, ◌*◌, ◌/◌, ◌≤◌, ◌<◌}
use native.Mathlib.Omega.{arith}
use lib.Dec.{eqb, leb, ltb}
use borrow.Author.Tests.{leb-true, leb-false, ltb-true, ltb-false}
use Rattle.dates.specs.Calendar.{leap, days_in, days_in_year}
use Rattle.dates.specs.DayNumbers.{total, days_before_month}
use Rattle.dates.proofs.Parts.{days_in_bounds}
use Rattle.dates.proofs.Tests.{by_month, decided}
use Rattle.dates.proofs.YearDays.{total_no_less}

pub month_more : (year month : ℕ) → 1 ≤ month → days_before_month year (suc month) ≡ days_before_month year month + days_in year month
unfolding days_before_month total
month_more year month h =
    let later : suc month - 1 ≡ suc (month - 1) = omega arith in
    let same : suc (month - 1) ≡ month = omega arith in
    ap (total (λ (k : ℕ). days_in year (suc k))) later ∙ ap (λ (m : ℕ). total (λ (k : ℕ). days_in year (suc k)) (month - 1) + days_in year m) same

pub months_no_less : (year a b : ℕ) → a ≤ b → days_before_month year a ≤ days_before_month year b
unfolding days_before_month
months_no_less year a b h = total_no_less (λ (k : ℕ). days_in year (suc k)) (a - 1) (b - 1) (omega arith)

pub in_january : (year : ℕ) → days_before_month year 1 ≡ 0
unfolding days_before_month total
in_january year = refl

-- a month's length, its year being a leap year or not
abbrev length_in : Bool → ℕ → ℕ
length_in t month = cond (eqb month 2) (cond t 29 28) (cond (eqb month 4 || eqb month 6 || eqb month 9 || eqb month 11) 30 31)

abbrev before : Bool → ℕ → ℕ
before t month = total (λ (k : ℕ). length_in t (suc k)) (month - 1)

whole_year : (t : Bool) → before t 13 ≡ cond t 366 365
unfolding total
whole_year true = refl
whole_year false = refl

pub before_thirteenth : (year : ℕ) → days_before_month year 13 ≡ days_in_year year
unfolding days_before_month days_in_year days_in
before_thirteenth year = whole_year (leap year)

abbrev Rule : Bool → ℕ → Type 0
Rule t month = before t month ≡ cond (ltb 2 month) ((367 * month - 362) / 12 - cond t 1 2) ((367 * month - 362) / 12)

in_leap_years : (month : ℕ) → 1 ≤ month → month ≤ 12 → Rule true month
unfolding total
in_leap_years = by_month (Rule true) refl refl refl refl refl refl refl refl refl refl refl refl

in_others : (month : ℕ) → 1 ≤ month → month ≤ 12 → Rule false month
unfolding total
in_others = by_month (Rule false) refl refl refl refl refl refl refl refl refl refl refl refl

either_way : (t : Bool) (month : ℕ) → 1 ≤ month → month ≤ 12 → Rule t month
either_way true = in_leap_years
either_way false = in_others

pub months_by_rule : (year month : ℕ) → 1 ≤ month → month ≤ 12
    → days_before_month year month ≡ cond (ltb 2 month) ((367 * month - 362) / 12 - cond (leap year) 1 2) ((367 * month - 362) / 12)
unfolding days_before_month days_in
months_by_rule year = either_way (leap year)

-- no month has more than 31 days, so before the month of that number there are no more
pub at_most_31 : (year k : ℕ) → days_before_month year (suc k) ≤ 31 * k
at_most_31 year zero = let e = in_january year in omega arith
at_most_31 year (suc k) =
    let e = month_more year (suc k) (omega arith) in
    let b = days_in_bounds year (suc k) in
    let i = at_most_31 year k in
    omega arith

pub at_most_372 : (year month : ℕ) → month ≤ 12 → days_before_month year month ≤ 372
at_most_372 year month h = let a = at_most_31 year 12 in let b = months_no_less year month 13 (omega arith) in omega arith

-- ---- what a search for a month needs
pub next_month : (year month : ℕ) → 1 ≤ month → days_before_month year (month + 1) ≡ days_before_month year month + days_in year month
next_month year month h =
    let e : month + 1 ≡ suc month = omega arith in
    ap (days_before_month year) e ∙ month_more year month h

pub starts_early : (year days : ℕ) → days_before_month year (days / 31 + 1) ≤ days
starts_early year days =
    let a = at_most_31 year (days / 31) in
    let e : days_before_month year (days / 31 + 1) ≡ days_before_month year (suc (days / 31)) = ap (days_before_month year) (next (days / 31)) in
    omega arith
  where
    next : (n : ℕ) → n + 1 ≡ suc n
    next n = omega arith

pub in_the_year : (year month days : ℕ) → days_before_month year month ≤ days → days < days_before_month year 13 → month ≤ 12
in_the_year year month days h k =
    ⊎_elim (λ e. leb-true month 12 e) (λ e. absurd (let l = leb-false month 12 e in let m = months_no_less year 13 month l in omega arith)) (decided (leb month 12))

-- and no later than the month after that
at_least : (year month : ℕ) → 2 < month → month ≤ 12 → (367 * month - 362) / 12 ≤ days_before_month year month + 2
at_least year month low high = go (leap year) (ltb 2 month) (days_before_month year month) ((367 * month - 362) / 12) (months_by_rule year month (omega arith) high)
  where
    go : (t u : Bool) (days even : ℕ) → days ≡ cond u (even - cond t 1 2) even → even ≤ days + 2
    go true true days even e = omega arith
    go false true days even e = omega arith
    go t false days even e = omega arith

a_year : (year : ℕ) → 365 ≤ days_in_year year
unfolding days_in_year
a_year year = go (leap year)
  where
    go : (t : Bool) → let n : ℕ = cond t 366 365 in 365 ≤ n
    go true = omega arith
    go false = omega arith

pub ends_soon : (year days : ℕ) → days / 31 ≤ 10 → days < days_before_month year (days / 31 + 1 + 1 + 1)
ends_soon year days h = ⊎_elim (λ e. early (ltb-true (days / 31) 10 e)) (λ e. december (ltb-false (days / 31) 10 e)) (decided (ltb (days / 31) 10))
  where
    early : days / 31 < 10 → days < days_before_month year (days / 31 + 1 + 1 + 1)
    early l = let a = at_least year (days / 31 + 1 + 1 + 1) (omega arith) (omega arith) in omega arith

    december : 10 ≤ days / 31 → days < days_before_month year (days / 31 + 1 + 1 + 1)
    december l =
        let d : days / 31 + 1 + 1 + 1 ≡ 13 = omega arith in
        let y = a_year year in
        rw (d, before_thirteenth) (omega arith)
