-- Whole powers in a row: the steps at an exponent of 2 ^ j times q, and i more, are the steps at i and then those at q. Assumes nothing.
use mathlib.Core.Path.{◌≡◌, refl, sym, ap, ap₂, ◌∙◌}
use mathlib.Core.List.{List, [], ◌∷◌, map}
use mathlib.Core.Bool.{cond}
use Prim.Native.Nat.{ℕ, zero, suc, ◌+◌, ◌*◌, ◌/◌, ◌%◌, ◌^◌, ◌≤◌, ◌<◌}
use native.Mathlib.Nat.{add-zero, add-suc, suc-add, not-suc-le-zero, le_of_suc-le-suc, pow-suc}
use native.Mathlib.Omega.{arith}
use lib.Dec.{eqb}
use lib.ListN.{get_or}
use lib.Ieee.{Float, nan, binary64, mul}
use borrow.Author.Tests.{eq-eqb, ne_eqb}
use Rattle.numbers.specs.Literals.{one}
use Rattle.elementary.specs.WholePower.{turns, whole_power}
use Rattle.elementary.specs.Powers.{powers_from}
use Rattle.elementary.specs.inner.Squared.{squared}
use Rattle.elementary.proofs.Turns.{turn_on, turn_last, ended}
use Rattle.elementary.proofs.PartWay.{map_alike}

-- one turn at any exponent: what the base is after the last turn does not matter
pub step : (n : ℕ) (p b : Float) → turns n n p b ≡ turns (n / 2) (n / 2) (cond (eqb (n % 2) 1) (mul binary64 p b) p) (mul binary64 b b)
unfolding turns
step zero p b = refl
step (suc m) p b = go (suc m / 2) refl
  where
    some : suc m ≡ 0 → ⊥
    some e = omega arith

    q : Float
    q = cond (eqb (suc m % 2) 1) (mul binary64 p b) p

    go : (h : ℕ) → suc m / 2 ≡ h → turns (suc m) (suc m) p b ≡ turns (suc m / 2) (suc m / 2) q (mul binary64 b b)
    go zero e = turn_last (suc m) p q b some refl e ∙ ended (suc m / 2) q b e ∙ sym (ended (suc m / 2) q (mul binary64 b b) e)
    go (suc h) e = turn_on (suc m) p q b some refl (λ z. no (suc m / 2) e z)
      where
        no : (k : ℕ) → k ≡ suc h → k ≡ 0 → ⊥
        no k a b = omega arith

pub split : (j q i : ℕ) (p b : Float) → i < 2 ^ j → turns (2 ^ j * q + i) (2 ^ j * q + i) p b ≡ turns q q (turns i i p b) (squared j b)
unfolding squared turns
split zero q zero p b h = ap (λ (n : ℕ). turns n n p b) (alone q)
  where
    alone : (q : ℕ) → 1 * q + 0 ≡ q
    alone q = omega arith
split zero q (suc i) p b h = absurd (omega arith)
split (suc j) q i p b h =
    ap (λ (P : ℕ). turns (P * q + i) (P * q + i) p b) (pow-suc 2 j)
    ∙ step (2 ^ j * 2 * q + i) p b
    ∙ ap₂ (λ (n d : ℕ). turns n n (cond (eqb d 1) (mul binary64 p b) p) (mul binary64 b b)) (halved (2 ^ j) q i) (odd (2 ^ j) q i)
    ∙ split j q (i / 2) (cond (eqb (i % 2) 1) (mul binary64 p b) p) (mul binary64 b b) (fits (2 ^ j) i (rw (pow-suc 2 j) at h))
    ∙ ap (λ (x : Float). turns q q x (squared j (mul binary64 b b))) (sym (step i p b))
  where
    out : (P q i : ℕ) → P * 2 * q + i ≡ 2 * (P * q) + i
    out P q i = omega arith

    halved : (P q i : ℕ) → (P * 2 * q + i) / 2 ≡ P * q + i / 2
    halved P q i = ap (λ (n : ℕ). n / 2) (out P q i) ∙ half (P * q) i
      where
        half : (x i : ℕ) → (2 * x + i) / 2 ≡ x + i / 2
        half x i = omega arith

    odd : (P q i : ℕ) → (P * 2 * q + i) % 2 ≡ i % 2
    odd P q i = ap (λ (n : ℕ). n % 2) (out P q i) ∙ rest (P * q) i
      where
        rest : (x i : ℕ) → (2 * x + i) % 2 ≡ i % 2
        rest x i = omega arith

    fits : (P i : ℕ) → i < P * 2 → i / 2 < P
    fits P i h = omega arith

-- the first 16 powers, each raised further
pub raised : (q i n : ℕ) (base : Float) → i + n ≤ 16 → map (λ (x : Float). turns q q x (squared 4 base)) (powers_from base i n) ≡ powers_from base (16 * q + i) n
unfolding powers_from whole_power
raised q i zero base h = refl
raised q i (suc n) base h =
    ap₂ (λ (x : Float) (xs : List Float). x ∷ xs) (sym (split 4 q i one base (omega arith)))
    (raised q (suc i) n base (omega arith) ∙ ap (λ (k : ℕ). powers_from base k n) (add-suc (16 * q) i))

-- one of them
pub power_at : (base : Float) (i n k : ℕ) → k < n → get_or (powers_from base i n) k nan ≡ whole_power base (i + k)
unfolding powers_from
power_at base i zero k h = absurd (not-suc-le-zero h)
power_at base i (suc n) zero h = ap (whole_power base) (sym (add-zero i))
power_at base i (suc n) (suc k) h = power_at base (suc i) n k (le_of_suc-le-suc h) ∙ ap (whole_power base) (suc-add i k ∙ sym (add-suc i k))

-- ---- the turns of a loop over a list
module _ (n : ℕ) (s : Float) where
  pub even_turn : (xs : List Float) → (n % 2 ≡ 1 → ⊥) → map (λ (x : Float). turns n n x s) xs ≡ map (λ (x : Float). turns (n / 2) (n / 2) x (mul binary64 s s)) xs
  even_turn xs h = map_alike _ _ (λ x. step n x s ∙ rw (ne_eqb (n % 2) 1 h)) xs

  pub odd_turn : (xs : List Float) → n % 2 ≡ 1 → map (λ (x : Float). turns n n x s) xs ≡ map (λ (x : Float). turns (n / 2) (n / 2) x (mul binary64 s s)) (map (λ (x : Float). mul binary64 x s) xs)
  odd_turn [] h = refl
  odd_turn (x ∷ xs) h = ap₂ (λ (y : Float) (ys : List Float). y ∷ ys) (step n x s ∙ rw (eq-eqb (n % 2) 1 h)) (odd_turn xs h)
