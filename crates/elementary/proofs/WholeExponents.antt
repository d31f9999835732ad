-- Whole exponents: the program's tests are the definition's, and the nearest whole number of a whole number is that number. Assumes nothing.
use mathlib.Core.Path.{◌≡◌, refl, sym, ap, ◌∙◌, subst}
use mathlib.Core.Bool.{Bool, true, false, ◌&&◌, ◌||◌, true≢false}
use Prim.Native.Nat.{ℕ, ◌+◌, ◌*◌, ◌/◌, ◌%◌, ◌≤◌, ◌<◌, min}
use native.Mathlib.Nat.{zero-div, div-add-mod', mul-le-mul_right, mul-mod_left, mul-one, le_trans, div-le_of_le-mul, eq_of_mul-eq-mul_right, zero-lt-suc}
use native.Mathlib.Omega.{arith}
use borrow.Author.Tests.{ltb-true, ltb-false, eq-eqb, le-leb, lt-leb}
use lib.IntN.{ℤ, pos}
use lib.Dec.{T, ltb, leb, eqb, lt→ltb, leb→le, eqb→eq, lit≤}
use lib.Ieee.{Float, nan, inf, fin, binary64, up, down, round, lt, le, eq, of_int, of_bits, div}
use lib.Ieee.Back.{round_whole}
use lib.Ieee.Exact.{HasValue}
use lib.Ieee.Fits.{down_pos, and_l, and_r, and_i, eq→eqb}
use Rattle.numbers.specs.Literals.{one}
use Rattle.numbers.specs.Clamps.{plus_zero}
use Rattle.numbers.specs.Sizes.{absolute}
use Rattle.numbers.specs.Whole.{nearest_to, nearest_whole, largest}
use Rattle.numbers.proofs.Amounts.{passes}
use Rattle.numbers.proofs.Ratios.{nearest_of_ratio}
use Rattle.elementary.specs.WholePower.{turns, whole_power, negative_power}
use Rattle.elementary.proofs.Roundings.{le_sizes, zero_factor}
use Rattle.elementary.specs.Power.{is_whole, size_of, by_sign}

-- 1,200
abbrev most : Float
most = of_bits binary64 0x4092_c000_0000_0000

-- ---- the test of the size
at_most : (m : ℕ) (k : ℤ) → le (fin false m k) most ≡ true → m * up k ≤ 1200 * down k
unfolding of_bits
at_most m k h = plain (m * up k) (down k) (le_sizes m k 75 (pos 4) (passes h))
  where
    plain : (a d : ℕ) → a * 1 ≤ 75 * 16 * d → a ≤ 1200 * d
    plain a d h = omega arith

neither : (a b : Bool) → (a || b) ≡ false → (T a → ⊥) × (T b → ⊥)
neither true b h = absurd (subst T h tt)
neither false true h = absurd (subst T h tt)
neither false false h = (λ t. t, λ t. t)

over : (m : ℕ) (k : ℤ) → le (fin false m k) most ≡ false → 1200 * down k < m * up k
unfolding le lt eq of_bits
over m k h =
    let A = m * up k * 1 in
    let B = 75 * 16 * down k in
    let n = neither (ltb A B) (eqb A B && true) h in
    more (m * up k) (down k) (λ l. n.0 (lt→ltb A B l)) (λ e. n.1 (and_i (eqb A B) true (eq→eqb e) tt))
  where
    more : (a d : ℕ) → (a * 1 < 75 * 16 * d → ⊥) → (a * 1 ≡ 75 * 16 * d → ⊥) → 1200 * d < a
    more a d p q = omega (arith, p, q)

-- ---- a / d is whole
module _ (a d : ℕ) (D : 0 < d) where
  whole_is : a % d ≡ 0 → a / d * d ≡ a
  whole_is z = plain (a / d * d) (a % d) z (div-add-mod' a d)
    where
      plain : (p r : ℕ) → r ≡ 0 → p + r ≡ a → p ≡ a
      plain p r z h = omega arith

  whole_if : (n : ℕ) → n * d ≡ a → a % d ≡ 0
  whole_if n e = ap (λ (i : ℕ). i % d) (sym e) ∙ mul-mod_left n d

  few : a ≤ 1200 * d → a / d ≤ 1200
  few h = div-le_of_le-mul d (turn h)
    where
      turn : a ≤ 1200 * d → a ≤ d * 1200
      turn h = omega arith

  many : a % d ≡ 0 → 1200 * d < a → 1200 < a / d
  many z h = go (a / d) (whole_is z) h
    where
      go : (q : ℕ) → q * d ≡ a → 1200 * d < a → 1200 < q
      go q e h = above (λ (g : q ≤ 1200). no (q * d) (1200 * d) e h (mul-le-mul_right d g))
        where
          no : (x y : ℕ) → x ≡ a → y < a → x ≤ y → ⊥
          no x y e h l = omega arith

          above : (q ≤ 1200 → ⊥) → 1200 < q
          above g = omega (arith, g)

  nearest_is : a % d ≡ 0 → a / d ≤ 1200 → min (nearest_to a d) largest ≡ a / d
  nearest_is z h =
      ap (λ (i : ℕ). min i largest) (nearest_of_ratio.same a d (a / d) 1 D (zero-lt-suc 0) (mul-one a ∙ sym (whole_is z)))
      ∙ at_one (a / d) h
    where
      at_one : (q : ℕ) → q ≤ 1200 → min ((q * 2 + 1) / (1 * 2)) largest ≡ q
      at_one q h = omega arith

  small : min (nearest_to a d) largest ≤ largest
  small = go (nearest_to a d)
    where
      go : (n : ℕ) → min n largest ≤ largest
      go n = omega arith

-- ---- a whole number compared with m * 2 ^ k
equals : (w : Float) (n : ℕ) (m : ℕ) (k : ℤ) → HasValue w false n 1 → eq w (fin false m k) ≡ eqb (n * down k) (m * up k)
unfolding eq
equals nan n m k v = absurd v
equals (inf s) n m k v = absurd v
equals (fin true p g) n m k v = absurd (true≢false v.0)
equals (fin false p g) n m k v = go (eqb (p * up g * down k) (m * up k * down g)) (eqb (n * down k) (m * up k)) (λ t. eq→eqb (to (eqb→eq (p * up g * down k) (m * up k * down g) t))) (λ t. eq→eqb (from (eqb→eq (n * down k) (m * up k) t)))
  where
    turn : (P G n d a : ℕ) → P * 1 ≡ n * G → P * d ≡ n * d * G
    turn P G n d a h = omega (arith, ap (λ (z : ℕ). z * d) h)

    to : p * up g * down k ≡ m * up k * down g → n * down k ≡ m * up k
    to e = eq_of_mul-eq-mul_right (down g) (down_pos g) (n * down k) (m * up k) (sym (turn (p * up g) (down g) n (down k) (m * up k) v.1) ∙ e)

    from : n * down k ≡ m * up k → p * up g * down k ≡ m * up k * down g
    from e = turn (p * up g) (down g) n (down k) (m * up k) v.1 ∙ ap (λ (z : ℕ). z * down g) e

    go : (s t : Bool) → (T s → T t) → (T t → T s) → (s && true) ≡ t
    go true true p q = refl
    go true false p q = absurd (p tt)
    go false true p q = absurd (q tt)
    go false false p q = refl

as_float : (n : ℕ) → n ≤ largest → HasValue (of_int binary64 (pos n)) false n 1
unfolding of_int
as_float n h = round_whole binary64 false n (le_trans h (lit≤ tt))

-- ---- a whole number that is x itself is the nearest to x
-- so far over a float w of that value
at_value : (w x : Float) (n : ℕ) → n ≤ largest → HasValue w false n 1 → eq w x ≡ true → n ≡ nearest_whole x
unfolding eq nearest_whole
at_value nan x n h v e = absurd v
at_value (inf s) x n h v e = absurd v
at_value (fin true p g) x n h v e = absurd (true≢false v.0)
at_value (fin false p g) nan n h v e = absurd (passes e)
at_value (fin false p g) (inf s) n h v e = absurd (passes e)
at_value (fin false p g) (fin true m k) n h v e =
    let A = p * up g * down k in
    let B = m * up k * down g in
    zero_factor n (down g) (down_pos g) (none (p * up g) (n * down g) v.1 (zero_factor (p * up g) (down k) (down_pos k) (eqb→eq A 0 (and_r (eqb A B) (eqb A 0) (passes e)))))
  where
    none : (a b : ℕ) → a * 1 ≡ b → a ≡ 0 → b ≡ 0
    none a b f z = omega arith
at_value (fin false p g) (fin false m k) n h v e =
    let a = m * up k in
    let d = down k in
    sym (ap (λ (i : ℕ). min i largest) (nearest_of_ratio.same a d n 1 (down_pos k) (zero-lt-suc 0) (mul-one a ∙ sym (eqb→eq (n * d) a (passes (sym (equals (fin false p g) n m k v) ∙ e))))) ∙ at_one n h)
  where
    at_one : (q : ℕ) → q ≤ largest → min ((q * 2 + 1) / (1 * 2)) largest ≡ q
    at_one q h = omega arith

pub itself : (x : Float) (n : ℕ) → n ≤ largest → eq (of_int binary64 (pos n)) x ≡ true → n ≡ nearest_whole x
itself x n h e = at_value (of_int binary64 (pos n)) x n h (as_float n h) e

-- ---- the program's test
pub within : (y : Float) (n : ℕ) → le (absolute y) most ≡ true → n ≡ nearest_whole (absolute y) → eq (of_int binary64 (pos n)) (absolute y) ≡ is_whole y
unfolding absolute is_whole nearest_whole
within nan n h e = absurd (unfold le in passes h)
within (inf s) n h e = absurd (unfold le of_bits in passes h)
within (fin s m k) n h e =
    let a = m * up k in
    let d = down k in
    let D = down_pos k in
    equals (of_int binary64 (pos n)) n m k (as_float n (subst (λ (i : ℕ). i ≤ largest) (sym e) (small a d D)))
    ∙ go (eqb (a % d) 0) (leb (a / d) 1200) (eqb→eq (a % d) 0) (λ z. eq→eqb z) (le-leb (a / d) 1200 (few a d D (at_most m k h)))
    (λ z. eq-eqb (n * d) a (ap (λ (i : ℕ). i * d) (e ∙ nearest_is a d D z (few a d D (at_most m k h))) ∙ whole_is a d D z))
    (λ t. whole_if a d D n (eqb→eq (n * d) a t))
  where
    go : (p q : Bool) → (T p → m * up k % down k ≡ 0) → (m * up k % down k ≡ 0 → T p) → q ≡ true → (m * up k % down k ≡ 0 → eqb (n * down k) (m * up k) ≡ true)
        → (T (eqb (n * down k) (m * up k)) → m * up k % down k ≡ 0) → eqb (n * down k) (m * up k) ≡ (p && q)
    go true q f g u i j = i (f tt) ∙ sym u
    go false q f g u i j = none (eqb (n * down k) (m * up k)) (λ t. g (j t))
      where
        none : (b : Bool) → (T b → ⊥) → b ≡ false
        none true h = absurd (h tt)
        none false h = refl

pub beyond : (y : Float) → le (absolute y) most ≡ false → false ≡ is_whole y
unfolding absolute is_whole
beyond nan h = refl
beyond (inf s) h = refl
beyond (fin s m k) h = go (eqb (m * up k % down k) 0) (leb (m * up k / down k) 1200) (λ t. lt-leb (m * up k / down k) 1200 (many (m * up k) (down k) (down_pos k) (eqb→eq (m * up k % down k) 0 t) (over m k h)))
  where
    go : (p q : Bool) → (T p → q ≡ false) → false ≡ (p && q)
    go true q f = sym (f tt)
    go false q f = refl

-- ---- the power by the sign of the exponent
size_is : (s : Bool) (m : ℕ) (k : ℤ) (n : ℕ) → is_whole (fin s m k) ≡ true → n ≡ nearest_whole (absolute (fin s m k)) → n ≡ size_of (fin s m k)
unfolding absolute is_whole nearest_whole size_of
size_is s m k n w e =
    let a = m * up k in
    let d = down k in
    e ∙ nearest_is a d (down_pos k) (eqb→eq (a % d) 0 (and_l (eqb (a % d) 0) (leb (a / d) 1200) (passes w))) (leb→le (a / d) 1200 (and_r (eqb (a % d) 0) (leb (a / d) 1200) (passes w)))

pub below_zero : (x y : Float) (n : ℕ) → is_whole y ≡ true → n ≡ nearest_whole (absolute y) → lt y plus_zero ≡ true → negative_power x n ≡ by_sign x y
unfolding by_sign
below_zero x nan n w e h = absurd (unfold is_whole in passes w)
below_zero x (inf s) n w e h = absurd (unfold is_whole in passes w)
below_zero x (fin true m k) n w e h = ap (negative_power x) (size_is true m k n w e)
below_zero x (fin false m k) n w e h = absurd (no m k h)
  where
    none : (a d : ℕ) → a * 1 < 0 * 1 * d → ⊥
    none a d h = omega arith

    no : (m : ℕ) (k : ℤ) → lt (fin false m k) plus_zero ≡ true → ⊥
    no m k h = unfold lt of_bits in none (m * up k) (down k) (ltb-true (m * up k * 1) (0 * 1 * down k) h)

-- to the power 0 and -0
no_turns : (x : Float) → whole_power x 0 ≡ one
unfolding whole_power turns
no_turns x = refl

one_by_one : div binary64 one one ≡ one
unfolding div of_bits round
one_by_one = refl

minus_zero_lem : (x : Float) → whole_power x 0 ≡ negative_power x 0
unfolding negative_power
minus_zero_lem x = no_turns x ∙ sym (ap (div binary64 one) (no_turns x) ∙ one_by_one)

pub not_below_zero : (x y : Float) (n : ℕ) → is_whole y ≡ true → n ≡ nearest_whole (absolute y) → lt y plus_zero ≡ false → whole_power x n ≡ by_sign x y
unfolding by_sign
not_below_zero x nan n w e h = absurd (unfold is_whole in passes w)
not_below_zero x (inf s) n w e h = absurd (unfold is_whole in passes w)
not_below_zero x (fin false m k) n w e h = ap (whole_power x) (size_is false m k n w e)
not_below_zero x (fin true m k) n w e h =
    ap (whole_power x) (size_is true m k n w e ∙ none) ∙ minus_zero_lem x ∙ ap (negative_power x) (sym none)
  where
    nothing : (a d : ℕ) → a * 1 + 0 * 1 * d ≤ 0 → a ≡ 0
    nothing a d h = omega arith

    no_size : m * up k ≡ 0
    no_size = unfold lt of_bits in nothing (m * up k) (down k) (ltb-false 0 (m * up k * 1 + 0 * 1 * down k) h)

    none : size_of (fin true m k) ≡ 0
    none = unfold size_of in ap (λ (a : ℕ). a / down k) no_size ∙ zero-div (down k)
