-- What is known of two tests that are joined, and of a number from 1 to 12. Assumes nothing.
use mathlib.Core.Path.{◌≡◌, refl, subst}
use mathlib.Core.Logic.{◌⊎◌, inl, inr, ⊎_elim}
use mathlib.Core.Bool.{Bool, true, false, ◌&&◌}
use Prim.Native.Nat.{ℕ, ◌≤◌, ◌<◌}
use native.Mathlib.Omega.{arith}
use lib.Dec.{eqb}
use borrow.Author.Tests.{eqb-true, eqb-false}

pub both : (a b : Bool) → (a && b) ≡ true → (a ≡ true) × (b ≡ true)
both true b e = (refl, e)
both false b e = absurd (let z : ◌≡◌ {A = ℕ} 0 1 = cc in omega arith)

pub joined : (a b : Bool) → a ≡ true → b ≡ true → (a && b) ≡ true
joined true b e f = f
joined false b e f = e

-- a test and what it tells
pub decided : (b : Bool) → (b ≡ true) ⊎ (b ≡ false)
decided true = inl refl
decided false = inr refl

pub clash : {b : Bool} → b ≡ true → b ≡ false → ⊥
clash e f = let z : ◌≡◌ {A = ℕ} 0 1 = cc in omega arith

-- what holds of each month holds of all: the next one, and those after it
month_or_later : (P : ℕ → Type 0) (n : ℕ) → P n → ((m : ℕ) → n < m → m ≤ 12 → P m) → (m : ℕ) → n ≤ m → m ≤ 12 → P m
month_or_later P n here later m low high =
    ⊎_elim (λ e. subst P (eqb-true n m e) here) (λ e. later m (other n m low (eqb-false n m e)) high) (decided (eqb n m))
  where
    other : (n m : ℕ) → n ≤ m → (n ≡ m → ⊥) → n < m
    other n m h e = omega arith

pub by_month : (P : ℕ → Type 0) → P 1 → P 2 → P 3 → P 4 → P 5 → P 6 → P 7 → P 8 → P 9 → P 10 → P 11 → P 12 → (m : ℕ) → 1 ≤ m → m ≤ 12 → P m
by_month P a b c d e f g h i j k l =
    month_or_later P 1 a
    (month_or_later P 2 b
    (month_or_later P 3 c
    (month_or_later P 4 d
    (month_or_later P 5 e
    (month_or_later P 6 f
    (month_or_later P 7 g
    (month_or_later P 8 h
    (month_or_later P 9 i
    (month_or_later P 10 j
    (month_or_later P 11 k
    (month_or_later P 12 l (λ m low high. absurd (omega arith)))))))))))))
