-- The days of the years before a year: one year's more with each, 365 each and one more for each fourth year that is no century and each fourth century, and never fewer of a later year. Assumes nothing.
use mathlib.Core.Path.{◌≡◌, refl, ap, subst, ◌∙◌}
use mathlib.Core.Logic.{⊎_elim}
use mathlib.Core.Bool.{Bool, true, false, cond, not, ◌&&◌, ◌||◌}
use Prim.Native.Nat.{ℕ, zero, suc, ◌+◌, ◌-◌, ◌*◌, ◌/◌, ◌%◌, ◌≤◌, ◌<◌}
use native.Mathlib.Omega.{arith}
use lib.Dec.{eqb, ltb}
use borrow.Author.Tests.{eqb-true, eqb-false, ltb-true, ltb-false}
use Rattle.dates.specs.Calendar.{leap, days_in_year}
use Rattle.dates.specs.DayNumbers.{total, days_before_year}
use Rattle.dates.proofs.Tests.{decided}

-- ---- how the closed form grows by a year
-- a test that divides the years, and what a year adds to the quotient
module _ (n : ℕ) where
  by_4 : (t : Bool) → eqb ((1900 + n) % 4) 0 ≡ t → (n + 4) / 4 ≡ (n + 3) / 4 + cond t 1 0
  by_4 true e = yes n (eqb-true _ 0 e)
    where
      yes : (n : ℕ) → (1900 + n) % 4 ≡ 0 → (n + 4) / 4 ≡ (n + 3) / 4 + 1
      yes n h = omega arith
  by_4 false e = no n (eqb-false _ 0 e)
    where
      no : (n : ℕ) → ((1900 + n) % 4 ≡ 0 → ⊥) → (n + 4) / 4 ≡ (n + 3) / 4 + 0
      no n h = omega arith

  by_100 : (t : Bool) → eqb ((1900 + n) % 100) 0 ≡ t → (n + 100) / 100 ≡ (n + 99) / 100 + cond t 1 0
  by_100 true e = yes n (eqb-true _ 0 e)
    where
      yes : (n : ℕ) → (1900 + n) % 100 ≡ 0 → (n + 100) / 100 ≡ (n + 99) / 100 + 1
      yes n h = omega arith
  by_100 false e = no n (eqb-false _ 0 e)
    where
      no : (n : ℕ) → ((1900 + n) % 100 ≡ 0 → ⊥) → (n + 100) / 100 ≡ (n + 99) / 100 + 0
      no n h = omega arith

  by_400 : (t : Bool) → eqb ((1900 + n) % 400) 0 ≡ t → (n + 300) / 400 ≡ (n + 299) / 400 + cond t 1 0
  by_400 true e = yes n (eqb-true _ 0 e)
    where
      yes : (n : ℕ) → (1900 + n) % 400 ≡ 0 → (n + 300) / 400 ≡ (n + 299) / 400 + 1
      yes n h = omega arith
  by_400 false e = no n (eqb-false _ 0 e)
    where
      no : (n : ℕ) → ((1900 + n) % 400 ≡ 0 → ⊥) → (n + 300) / 400 ≡ (n + 299) / 400 + 0
      no n h = omega arith

  -- of the three tests each but the first brings the one before it
  year_length : (a b c : Bool) → eqb ((1900 + n) % 4) 0 ≡ a → eqb ((1900 + n) % 100) 0 ≡ b → eqb ((1900 + n) % 400) 0 ≡ c
      → cond ((a && not b) || c) 366 365 + cond b 1 0 ≡ 365 + cond a 1 0 + cond c 1 0
  year_length true true true e f g = refl
  year_length true true false e f g = refl
  year_length true false true e f g = absurd (four_hundredth n (eqb-false _ 0 f) (eqb-true _ 0 g))
    where
      four_hundredth : (n : ℕ) → ((1900 + n) % 100 ≡ 0 → ⊥) → (1900 + n) % 400 ≡ 0 → ⊥
      four_hundredth n h k = omega arith
  year_length true false false e f g = refl
  year_length false true c e f g = absurd (hundredth n (eqb-false _ 0 e) (eqb-true _ 0 f))
    where
      hundredth : (n : ℕ) → ((1900 + n) % 4 ≡ 0 → ⊥) → (1900 + n) % 100 ≡ 0 → ⊥
      hundredth n h k = omega arith
  year_length false false true e f g = absurd (four_hundredth n (eqb-false _ 0 e) (eqb-true _ 0 g))
    where
      four_hundredth : (n : ℕ) → ((1900 + n) % 4 ≡ 0 → ⊥) → (1900 + n) % 400 ≡ 0 → ⊥
      four_hundredth n h k = omega arith
  year_length false false false e f g = refl

sums : (days year n a b c p q r p' q' r' : ℕ) → days + q ≡ 365 * n + p + r → p' ≡ p + a → q' ≡ q + b → r' ≡ r + c → year + b ≡ 365 + a + c → days + year + q' ≡ 365 * suc n + p' + r'
sums days year n a b c p q r p' q' r' ih e f g h = omega arith

-- the days of the first n years, by the rule for leap years
closed : (n : ℕ) → total (λ (k : ℕ). days_in_year (1900 + k)) n + (n + 99) / 100 ≡ 365 * n + (n + 3) / 4 + (n + 299) / 400
unfolding total days_in_year leap
closed zero = refl
closed (suc n) =
    let a = eqb ((1900 + n) % 4) 0 in
    let b = eqb ((1900 + n) % 100) 0 in
    let c = eqb ((1900 + n) % 400) 0 in
    let p : (suc n + 3) / 4 ≡ (n + 3) / 4 + cond a 1 0 = ap (λ (k : ℕ). k / 4) (omega arith) ∙ by_4 n a refl in
    let q : (suc n + 99) / 100 ≡ (n + 99) / 100 + cond b 1 0 = ap (λ (k : ℕ). k / 100) (omega arith) ∙ by_100 n b refl in
    let r : (suc n + 299) / 400 ≡ (n + 299) / 400 + cond c 1 0 = ap (λ (k : ℕ). k / 400) (omega arith) ∙ by_400 n c refl in
    sums _ _ n _ _ _ _ _ _ _ _ _ (closed n) p q r (year_length n a b c refl refl refl)

-- ---- the same of a year
pub by_rule : (year : ℕ) → days_before_year year + (year - 1900 + 99) / 100 ≡ 365 * (year - 1900) + (year - 1900 + 3) / 4 + (year - 1900 + 299) / 400
unfolding days_before_year
by_rule year = closed (year - 1900)

pub year_more : (year : ℕ) → 1900 ≤ year → days_before_year (suc year) ≡ days_before_year year + days_in_year year
unfolding days_before_year total
year_more year h =
    let later : suc year - 1900 ≡ suc (year - 1900) = omega arith in
    let same : 1900 + (year - 1900) ≡ year = omega arith in
    ap (total (λ (k : ℕ). days_in_year (1900 + k))) later ∙ ap (λ (y : ℕ). total (λ (k : ℕ). days_in_year (1900 + k)) (year - 1900) + days_in_year y) same

grows : (f : ℕ → ℕ) (m n : ℕ) → total f m ≤ total f (m + n)
unfolding total
grows f m zero = rw (add_zero_here m) (refl_le (total f m))
  where
    add_zero_here : (m : ℕ) → m + 0 ≡ m
    add_zero_here m = omega arith

    refl_le : (x : ℕ) → x ≤ x
    refl_le x = omega arith
grows f m (suc n) = rw (one_more m n) (longer _ _ _ (grows f m n))
  where
    one_more : (m n : ℕ) → m + suc n ≡ suc (m + n)
    one_more m n = omega arith

    longer : (x y z : ℕ) → x ≤ y → x ≤ y + z
    longer x y z h = omega arith

pub total_no_less : (f : ℕ → ℕ) (m n : ℕ) → m ≤ n → total f m ≤ total f n
total_no_less f m n h =
    let e : m + (n - m) ≡ n = omega arith in
    subst (λ (k : ℕ). total f m ≤ total f k) e (grows f m (n - m))

pub years_no_less : (a b : ℕ) → a ≤ b → days_before_year a ≤ days_before_year b
unfolding days_before_year
years_no_less a b h = total_no_less (λ (k : ℕ). days_in_year (1900 + k)) (a - 1900) (b - 1900) (omega arith)

-- ---- what a search for a year needs
within_closed : (days n p q r : ℕ) → days + q ≡ 365 * n + p + r → p ≤ n → r ≤ q → days ≤ 366 * n
within_closed days n p q r e f g = omega arith

pub at_most_366 : (year : ℕ) → days_before_year year ≤ 366 * (year - 1900)
at_most_366 year =
    let n = year - 1900 in
    within_closed (days_before_year year) n _ _ _ (by_rule year) (fourths n) (hundreds n)
  where
    fourths : (n : ℕ) → (n + 3) / 4 ≤ n
    fourths n = omega arith

    hundreds : (n : ℕ) → (n + 299) / 400 ≤ (n + 99) / 100
    hundreds n = omega arith

pub in_2200 : days_before_year 2200 ≡ 109573
unfolding days_before_year total days_in_year leap
in_2200 = refl

pub before_2200 : (year days : ℕ) → days_before_year year ≤ days → days < 109573 → year < 2200
before_2200 year days h k = lt_by (λ late. let m = years_no_less 2200 year late in let e = in_2200 in omega arith)
  where
    lt_by : (2200 ≤ year → ⊥) → year < 2200
    lt_by f = ⊎_elim (λ e. ltb-true year 2200 e) (λ e. absurd (f (ltb-false year 2200 e))) (decided (ltb year 2200))

-- so many days after 1 January 1900 is no earlier than one year for each 366
pub starts_early : (days : ℕ) → days_before_year (1900 + days / 366) ≤ days
starts_early days =
    let a = at_most_366 (1900 + days / 366) in
    let e : 1900 + days / 366 - 1900 ≡ days / 366 = omega arith in
    let f : days_before_year (1900 + days / 366) ≤ 366 * (days / 366) = subst (λ (k : ℕ). days_before_year (1900 + days / 366) ≤ 366 * k) e a in
    omega arith

-- and no later than the year after that
pub ends_soon : (days : ℕ) → days < 109573 → days < days_before_year (1900 + days / 366 + 1 + 1)
ends_soon days h = go days (days / 366) _ _ (by_rule (1900 + days / 366 + 1 + 1)) (omega arith) (omega arith)
  where
    go : (days k y n : ℕ) → days_before_year y + (n + 99) / 100 ≡ 365 * n + (n + 3) / 4 + (n + 299) / 400 → n ≡ k + 2 → (days < 366 * (k + 1)) × (k < 300) → days < days_before_year y
    go days k y n r e h = omega arith
