-- How many binary digits a whole number has, and the difference of two whole numbers as an integer. Assumes nothing.
use mathlib.Core.Path.{◌≡◌, refl, sym, ap, ◌∙◌}
use mathlib.Core.Bool.{Bool, true, false, not, cond}
use Prim.Native.Nat.{ℕ, suc, ◌+◌, ◌-◌, ◌*◌, ◌^◌, ◌≤◌, ◌<◌}
use native.Mathlib.Nat.{lt_of_not-le, lt_of_lt_of_le, not-le_of_lt, mul-le-mul_right, eq_of_mul-eq-mul_right, add-zero, sub-zero}
use native.Mathlib.Omega.{arith}
use lib.IntN.{ℤ, pos, negsuc, sub_ℕ, ◌+ℤ◌}
use lib.Dec.{T, ltb, ltb→lt, nltb→le}
use lib.Pow.{pow-add, pow_pos, pow_mono, shl_lt}
use lib.Ieee.{size, up, down}
use lib.Ieee.Digits.{size-lt, size-le, size_reaches}

-- ---- digits
pub size_above : (n j : ℕ) → 2 ^ j ≤ n → j < size n
size_above n j h = lt_of_not-le (λ (g : size n ≤ j). not-le_of_lt (lt_of_lt_of_le (size-lt n) (pow_mono g)) h)

pub size_pos : (n : ℕ) → 0 < n → 0 < size n
size_pos n h = size_above n 0 h

-- n * 2 ^ j has j digits more
pub size_shift : (n j : ℕ) → 0 < n → size (n * 2 ^ j) ≡ size n + j
size_shift n j h =
    join (size n) j (size (n * 2 ^ j)) (size_pos n h) (size-le (n * 2 ^ j) (size n + j) (shl_lt (size n) j (size-lt n)))
    (size_above (n * 2 ^ j) (size n - 1 + j) (rw (pow-add 2 (size n - 1) j) (mul-le-mul_right (2 ^ j) (size_reaches n (size n - 1) (last (size n) (size_pos n h))))))
  where
    last : (z : ℕ) → 0 < z → z - 1 < z
    last z h = omega arith

    join : (z j x : ℕ) → 0 < z → x ≤ z + j → z - 1 + j < x → x ≡ z + j
    join z j x Z a b = omega arith

-- of two numbers that differ by a power of two, the digits before the point agree
module _ (m c A B : ℕ) (M : 0 < m) (C : 0 < c) (e : m * 2 ^ A ≡ c * 2 ^ B) where
  pub sizes_agree : size m + A ≡ size c + B
  sizes_agree = sym (size_shift m A M) ∙ ap size e ∙ size_shift c B C

  pub leads_agree : m * 2 ^ (size c - 1) ≡ c * 2 ^ (size m - 1)
  leads_agree =
      eq_of_mul-eq-mul_right (2 ^ B) (pow_pos B) (m * 2 ^ (size c - 1)) (c * 2 ^ (size m - 1))
      (turn (2 ^ (size m - 1)) (2 ^ (size c - 1)) (2 ^ A) (2 ^ B)
      (sym (pow-add 2 (size m - 1) A) ∙ ap (λ (i : ℕ). 2 ^ i) (less (size m) (size c) (size_pos m M) (size_pos c C) sizes_agree) ∙ pow-add 2 (size c - 1) B) e)
    where
      less : (p q : ℕ) → 0 < p → 0 < q → p + A ≡ q + B → p - 1 + A ≡ q - 1 + B
      less p q h g s = omega arith

      turn : (P R a b : ℕ) → P * a ≡ R * b → m * a ≡ c * b → m * R * b ≡ c * P * b
      turn P R a b h g = omega (arith, ap (λ (z : ℕ). m * z) h, ap (λ (z : ℕ). z * P) g)

-- ---- 2 ^ k as a fraction of two powers of two
abbrev pub up_by : ℤ → ℕ
up_by (pos a) = a
up_by (negsuc a) = 0

abbrev pub down_by : ℤ → ℕ
down_by (pos a) = 0
down_by (negsuc a) = suc a

pub up_is : (k : ℤ) → up k ≡ 2 ^ up_by k
up_is (pos a) = refl
up_is (negsuc a) = refl

pub down_is : (k : ℤ) → down k ≡ 2 ^ down_by k
down_is (pos a) = refl
down_is (negsuc a) = refl

-- ---- a - b as an integer
pub same_difference : (a b c d : ℕ) → a + d ≡ c + b → sub_ℕ a b ≡ sub_ℕ c d
same_difference a b c d e = go (ltb a b) (ltb c d) (ltb→lt a b) (nltb→le a b) (ltb→lt c d) (nltb→le c d)
  where
    go : (s t : Bool) → (T s → a < b) → (T (not s) → b ≤ a) → (T t → c < d) → (T (not t) → d ≤ c) → cond s (negsuc (b - suc a)) (pos (a - b)) ≡ cond t (negsuc (d - suc c)) (pos (c - d))
    go true true h g i j = ap negsuc (both (h tt) (i tt))
      where
        both : a < b → c < d → b - suc a ≡ d - suc c
        both h i = omega arith
    go false false h g i j = ap pos (both (g tt) (j tt))
      where
        both : b ≤ a → d ≤ c → a - b ≡ c - d
        both h i = omega arith
    go true false h g i j = absurd (neither (h tt) (j tt))
      where
        neither : a < b → d ≤ c → ⊥
        neither h i = omega arith
    go false true h g i j = absurd (neither (g tt) (i tt))
      where
        neither : b ≤ a → c < d → ⊥
        neither h i = omega arith

pub plain_difference : (a : ℕ) → sub_ℕ a 0 ≡ pos a
plain_difference a = go (ltb a 0) (ltb→lt a 0)
  where
    no : a < 0 → ⊥
    no h = omega arith

    go : (t : Bool) → (T t → a < 0) → cond t (negsuc (0 - suc a)) (pos (a - 0)) ≡ pos a
    go true h = absurd (no (h tt))
    go false h = ap pos (sub-zero a)

pub sum_is_difference : (p : ℕ) (k : ℤ) → pos p +ℤ k ≡ sub_ℕ (p + up_by k) (down_by k)
sum_is_difference p (pos a) = sym (plain_difference (p + a))
sum_is_difference p (negsuc a) = ap (λ (n : ℕ). sub_ℕ n (suc a)) (sym (add-zero p))

pub one_more : (a b : ℕ) → sub_ℕ a b +ℤ pos 1 ≡ sub_ℕ (a + 1) b
one_more a b = go (ltb a b) (ltb→lt a b) (nltb→le a b)
  where
    go : (t : Bool) → (T t → a < b) → (T (not t) → b ≤ a) → cond t (negsuc (b - suc a)) (pos (a - b)) +ℤ pos 1 ≡ sub_ℕ (a + 1) b
    go true h g = same_difference 1 (suc (b - suc a)) (a + 1) b (less (h tt))
      where
        less : a < b → 1 + b ≡ a + 1 + suc (b - suc a)
        less h = omega arith
    go false h g = sym (plain_difference (a - b + 1)) ∙ same_difference (a - b + 1) 0 (a + 1) b (more (g tt))
      where
        more : b ≤ a → a - b + 1 + b ≡ a + 1 + 0
        more h = omega arith

-- ---- 2 ^ (p + k) is 2 ^ p times 2 ^ k
pub power_sum : (p : ℕ) (k : ℤ) → up (pos p +ℤ k) * down k ≡ up k * 2 ^ p * down (pos p +ℤ k)
power_sum p (pos a) = rw (pow-add 2 p a) (turn (2 ^ p) (2 ^ a))
  where
    turn : (x y : ℕ) → x * y * 1 ≡ y * x * 1
    turn x y = omega arith
power_sum p (negsuc a) = go (ltb p (suc a)) (ltb→lt p (suc a)) (nltb→le p (suc a))
  where
    go : (t : Bool) → (T t → p < suc a) → (T (not t) → suc a ≤ p)
        → up (cond t (negsuc (suc a - suc p)) (pos (p - suc a))) * 2 ^ suc a ≡ 1 * 2 ^ p * down (cond t (negsuc (suc a - suc p)) (pos (p - suc a)))
    go true h g = turn (2 ^ suc a) (2 ^ p) (2 ^ suc (suc a - suc p)) (ap (λ (i : ℕ). 2 ^ i) (left (h tt)) ∙ pow-add 2 p (suc (suc a - suc p)))
      where
        left : p < suc a → suc a ≡ p + suc (suc a - suc p)
        left h = omega arith

        turn : (x y z : ℕ) → x ≡ y * z → 1 * x ≡ 1 * y * z
        turn x y z e = omega arith
    go false h g = turn (2 ^ (p - suc a)) (2 ^ suc a) (2 ^ p) (ap (λ (i : ℕ). 2 ^ i) (left (g tt)) ∙ pow-add 2 (p - suc a) (suc a))
      where
        left : suc a ≤ p → p ≡ p - suc a + suc a
        left h = omega arith

        turn : (x y z : ℕ) → z ≡ x * y → x * y ≡ 1 * z * 1
        turn x y z e = omega arith
