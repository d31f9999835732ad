-- exp's k as the program finds it, where x passes neither end: its size by the nearest whole number to a small size, and 2 to its power by the last digits of a float over 2 ^ 52.
-- Assumes nothing.
use mathlib.Core.Path.{◌≡◌, refl, sym, ap, ap₂, ◌∙◌, subst}
use mathlib.Core.Bool.{Bool, true, false, not, cond}
use mathlib.Core.Logic.{◌⊎◌, inl, inr, ⊎_elim}
use Prim.Native.Nat.{ℕ, ◌+◌, ◌-◌, ◌*◌, ◌/◌, ◌%◌, ◌^◌, ◌≤◌, ◌<◌}
use native.Mathlib.Nat.{le_trans, mul-pos, mul-le-mul_right, le_of_mul-le-mul_right, mul-div_cancel, zero-lt-suc, div-one}
use native.Mathlib.Omega.{arith}
use borrow.Author.Tests.{ltb-true, ltb-false}
use lib.IntN.{pos}
use lib.Dec.{T, lit≤}
use lib.Pow.{pow_pos}
use lib.Ieee.{Float, nan, inf, fin, binary64, up, down, fits, is_nan, nan_bits, size, round, add, sub, mul, neg, lt, le, eq, ne, of_int, of_bits, to_bits}
use lib.Ieee.Compare.{nan_differs}
use lib.Ieee.Digits.{size-le}
use lib.Ieee.Fits.{down_pos, round-fits, mul-fits}
use lib.Ieee.Back.{whole_unique}
use Rattle.numbers.specs.Literals.{one, seven_hundred_nine, minus_seven_hundred_eight, half, inverse_ln2}
use Rattle.numbers.specs.Clamps.{plus_zero}
use Rattle.numbers.specs.Sizes.{absolute}
use Rattle.numbers.specs.Units.{units}
use Rattle.numbers.specs.Whole.{nearest_whole}
use Rattle.numbers.proofs.Amounts.{passes, amount, counts}
use Rattle.elementary.specs.Exp.{below, halvings, signed, two_to}
use Rattle.elementary.specs.inner.Ends.{Inside}
use Rattle.elementary.proofs.Bounds.{Within, round_within}
use Rattle.elementary.proofs.Halvings.{numerator, product_size, in_range, few_halvings}
use Rattle.elementary.proofs.NearestSmall.{lift, goes_up, stays}
use Rattle.elementary.proofs.Patterns.{field_is_no_nan, two_to_up, two_to_down}
use Rattle.elementary.proofs.Roundings.{round_no_nan}
use Rattle.elementary.proofs.Sizes.{size_above, size_shift}
use Rattle.numbers.proofs.Values.{pattern_at, pattern_of_value}
use Rattle.elementary.proofs.Wholes.{whole_value, whole_sum, whole_less}

-- ---- the size of x / ln 2 is at most 1,024
in_units : (A : Float) → T (fits binary64 A) → Within A 10 → absolute A ≡ A → T (amount binary64 A) × (units A ≤ 1024 * 2 ^ 1074)
unfolding amount absolute
in_units nan f w e = absurd w
in_units (inf s) f w e = absurd w
in_units (fin true m k) f w e = absurd (let z : true ≡ false = cc in subst T z tt)
in_units (fin false m k) f w e = (f, le_of_mul-le-mul_right {k = down k} (turn (m * up k) (2 ^ 1074) (down k) (units (fin false m k)) w (counts binary64 (fin false m k) f).1) (down_pos k))
  where
    turn : (M U d t : ℕ) → M ≤ 1024 * d → M * U ≡ t * d → t * d ≤ 1024 * U * d
    turn M U d t h e = omega (arith, mul-le-mul_right U h)

no_sign : (x : Float) → absolute (absolute x) ≡ absolute x
unfolding absolute
no_sign nan = refl
no_sign (inf s) = refl
no_sign (fin s m e) = refl

pub small_size : (x : Float) → ne x x ≡ false → lt seven_hundred_nine x ≡ false → lt x minus_seven_hundred_eight ≡ false → T (amount binary64 (absolute (mul binary64 x inverse_ln2))) × (units (absolute (mul binary64 x inverse_ln2)) ≤ 1024 * 2 ^ 1074)
small_size nan n a b = absurd (subst T (sym nan_differs ∙ n) tt)
small_size (inf true) n a b = absurd (unfold lt of_bits in subst T b tt)
small_size (inf false) n a b = absurd (unfold lt of_bits in subst T a tt)
small_size (fin s m e) n a b =
    in_units (absolute (mul binary64 (fin s m e) inverse_ln2)) (rw (product_size s m e) (round-fits binary64 false (m * up e * (numerator * 1)) (down e * 2 ^ 51)))
    (rw (product_size s m e) (round_within binary64 false (m * up e * (numerator * 1)) (down e * 2 ^ 51) 10 (mul-pos (down_pos e) (pow_pos 51)) (omega arith) (turn (m * up e) (down e) (numerator * 1) (2 ^ 51) (2 ^ 10) (lit≤ tt) (in_range s m e a b))))
    (no_sign (mul binary64 (fin s m e) inverse_ln2))
  where
    turn : (M d N D P : ℕ) → 709 * N ≤ P * D → M ≤ 709 * d → M * N ≤ P * (d * D)
    turn M d N D P g h = omega (arith, mul-le-mul_right N h, mul-le-mul_right d g)

-- ---- the program's two cases
abbrev nearby : Float → Float
nearby a = sub binary64 (add binary64 a lift) lift

up_by_one : (y : Float) → T (amount binary64 (absolute y)) × (units (absolute y) ≤ 1024 * 2 ^ 1074) → le (add binary64 (nearby (absolute y)) half) (absolute y) ≡ true
    → add binary64 (nearby (absolute y)) one ≡ of_int binary64 (pos (nearest_whole (absolute y)))
unfolding absolute amount
up_by_one nan p h = absurd p.0
up_by_one (inf s) p h = absurd p.0
up_by_one (fin s m e) p h = goes_up m e p.0 p.1 h

as_it_is : (y : Float) → T (amount binary64 (absolute y)) × (units (absolute y) ≤ 1024 * 2 ^ 1074) → le (add binary64 (nearby (absolute y)) half) (absolute y) ≡ false
    → nearby (absolute y) ≡ of_int binary64 (pos (nearest_whole (absolute y)))
unfolding absolute amount
as_it_is nan p h = absurd p.0
as_it_is (inf s) p h = absurd p.0
as_it_is (fin s m e) p h = stays m e p.0 p.1 h

minus_zero : Float
minus_zero = fin true 0 (pos 0)

turned : (y : Float) → lt y plus_zero ≡ true → neg y ≡ absolute y
unfolding lt neg absolute of_bits
turned nan h = absurd (passes h)
turned (inf true) h = refl
turned (inf false) h = absurd (passes h)
turned (fin true m e) h = refl
turned (fin false m e) h = absurd (no (m * up e * 1) (down e) (ltb-true (m * up e * 1) (0 * 1 * down e) h))
  where
    no : (a d : ℕ) → a < 0 * 1 * d → ⊥
    no a d g = omega arith

kept : (y : Float) → T (fits binary64 y) → lt y plus_zero ≡ false → (y ≡ absolute y) ⊎ (y ≡ minus_zero)
unfolding lt absolute of_bits fits minus_zero
kept nan f h = inl refl
kept (inf true) f h = absurd (subst T h tt)
kept (inf false) f h = inl refl
kept (fin false m e) f h = inl refl
kept (fin true m e) f h = inr (whole_unique binary64 (fin true m e) (fin true 0 (pos 0)) true 0 f tt (refl, none (m * up e * 1) (down e) (ltb-false 0 (m * up e * 1 + 0 * 1 * down e) h)) (refl, refl))
  where
    none : (a d : ℕ) → a + 0 * 1 * d ≤ 0 → a ≡ 0 * d
    none a d h = omega arith

sized : (y a : Float) (sign : Bool) → T (fits binary64 y) → lt y plus_zero ≡ sign → a ≡ cond sign (neg y) y → (a ≡ absolute y) ⊎ ((a ≡ minus_zero) × (y ≡ minus_zero))
sized y a true f s e = inl (e ∙ turned y s)
sized y a false f s e = ⊎_elim (λ h. inl (e ∙ h)) (λ h. inr (e ∙ h, h)) (kept y f s)

zero_stays : le (add binary64 (nearby minus_zero) half) minus_zero ≡ false
unfolding le lt eq add sub of_bits minus_zero
zero_stays = refl

zero_as_it_is : nearby minus_zero ≡ of_int binary64 (pos (nearest_whole (absolute minus_zero)))
unfolding add sub of_bits of_int nearest_whole absolute minus_zero
zero_as_it_is = refl

module _ (x : Float) (inside : Inside x) where
  abbrev y : Float
  y = mul binary64 x inverse_ln2

  -- the size, whose sign is taken off as it is found or known: below zero the number turned round, else the number itself, which may be -0
  module _ (sign : Bool) (is : below x ≡ sign) (a n : Float) (size : a ≡ cond sign (neg y) y) (near : n ≡ nearby a) where
    cases : (a ≡ absolute y) ⊎ ((a ≡ minus_zero) × (y ≡ minus_zero))
    unfolding below
    cases = sized y a sign (mul-fits binary64 x inverse_ln2) is size

    pub size_up : le (add binary64 n half) a ≡ true → add binary64 n one ≡ of_int binary64 (pos (halvings x))
    unfolding halvings
    size_up h =
        ⊎_elim
        (λ w. rw near (rw w (up_by_one y (small_size x inside.0 inside.1 inside.2) (rw w at (rw near at h)))))
        (λ w. absurd (subst T (sym (rw w.0 at (rw near at h)) ∙ zero_stays) tt))
        cases

    pub size_as_it_is : le (add binary64 n half) a ≡ false → n ≡ of_int binary64 (pos (halvings x))
    unfolding halvings
    size_as_it_is h =
        ⊎_elim
        (λ w. rw near (rw w (as_it_is y (small_size x inside.0 inside.1 inside.2) (rw w at (rw near at h)))))
        (λ w. near ∙ ap nearby w.0 ∙ zero_as_it_is ∙ ap (λ (z : Float). of_int binary64 (pos (nearest_whole (absolute z)))) (sym w.1))
        cases

    -- the sign put back
    pub signed_as_it_is : (k : Float) → le (add binary64 n half) a ≡ false → k ≡ cond sign (neg n) n → k ≡ signed (below x) (halvings x)
    signed_as_it_is k h back = back ∙ ap₂ (λ (s : Bool) (m : Float). cond s (neg m) m) (sym is) (size_as_it_is h)

-- ---- 2 to the power k: 2 ^ 52 + 1023 is added, and the exponent's field 1023 + k stands in the last digits
abbrev pub field_lift : Float
field_lift = of_bits binary64 0x4330_0000_0000_03ff

field_lift_is : field_lift ≡ of_int binary64 (pos (2 ^ 52 + 1023))
unfolding of_bits of_int round
field_lift_is = refl

-- the pattern of a whole number over 2 ^ 52
over_pattern : (j : ℕ) → j < 2048 → to_bits binary64 (of_int binary64 (pos (2 ^ 52 + j))) ≡ 1075 * 2 ^ 52 + j
over_pattern j h =
    pattern_of_value binary64 (of_int binary64 (pos (2 ^ 52 + j))) false (2 ^ 52 + j) 1 (zero-lt-suc 0) (whole_value binary64 (2 ^ 52 + j) (few j h))
    ∙ ap (pattern_at binary64 false) (div-one ((2 ^ 52 + j) * 2 ^ 1074))
    ∙ opened
  where
    few : (j : ℕ) → j < 2048 → 2 ^ 52 + j ≤ 2 ^ 53
    few j h = omega arith

    less : (j : ℕ) → j < 2048 → 2 ^ 52 + j < 2 ^ 53
    less j h = omega arith

    size_is : size ((2 ^ 52 + j) * 2 ^ 1074) - 53 ≡ 1074
    size_is = ap (λ (s : ℕ). s - 53) (size_shift (2 ^ 52 + j) 1074 (some j)) ∙ go (size (2 ^ 52 + j)) (size_above (2 ^ 52 + j) 52 (more j)) (size-le (2 ^ 52 + j) 53 (less j h))
      where
        some : (j : ℕ) → 0 < 2 ^ 52 + j
        some j = omega arith

        more : (j : ℕ) → 2 ^ 52 ≤ 2 ^ 52 + j
        more j = omega arith

        go : (s : ℕ) → 52 < s → s ≤ 53 → s + 1074 - 53 ≡ 1074
        go s a b = omega arith

    opened : pattern_at binary64 false ((2 ^ 52 + j) * 2 ^ 1074) ≡ 1075 * 2 ^ 52 + j
    opened = unfold pattern_at in ap (λ (z : ℕ). 0 + z * 2 ^ 52 + (2 ^ 52 + j) * 2 ^ 1074 / 2 ^ z) size_is ∙ ap (λ (q : ℕ). 0 + 1074 * 2 ^ 52 + q) (mul-div_cancel (2 ^ 52 + j) (pow_pos 1074)) ∙ sum j
      where
        sum : (j : ℕ) → 0 + 1074 * 2 ^ 52 + (2 ^ 52 + j) ≡ 1075 * 2 ^ 52 + j
        sum j = omega arith

shifted : (j : ℕ) → (1075 * 2 ^ 52 + j) * 2 ^ 52 % 2 ^ 64 ≡ j * 2 ^ 52 % 2 ^ 64
shifted j = omega arith

-- k with the exponent's field j
module _ (k : Float) (j : ℕ) (J : 0 < j) (S : j < 2047) (is : add binary64 k field_lift ≡ of_int binary64 (pos (2 ^ 52 + j))) where
  sum_no_nan : T (not (is_nan (add binary64 k field_lift)))
  unfolding of_int
  sum_no_nan = subst (λ (b : Bool). T (not b)) (sym (ap is_nan is ∙ round_no_nan binary64 false (2 ^ 52 + j) 1)) tt

  pattern_is : to_bits binary64 (add binary64 k field_lift) * 2 ^ 52 % 2 ^ 64 ≡ j * 2 ^ 52 % 2 ^ 64
  pattern_is = ap (λ (b : ℕ). b * 2 ^ 52 % 2 ^ 64) (ap (to_bits binary64) is ∙ over_pattern j (omega arith)) ∙ shifted j

  pattern_no_nan : T (not (nan_bits binary64 (to_bits binary64 (add binary64 k field_lift) * 2 ^ 52 % 2 ^ 64)))
  pattern_no_nan = rw pattern_is (field_is_no_nan j J S)

pub record Scales (k : Float) (s : Bool) (n : ℕ) : Type 0 where
  pub sum_is_no_nan : T (not (is_nan (add binary64 k field_lift)))
  pub pattern_is_no_nan : T (not (nan_bits binary64 (to_bits binary64 (add binary64 k field_lift) * 2 ^ 52 % 2 ^ 64)))
  pub gives : of_bits binary64 (to_bits binary64 (add binary64 k field_lift) * 2 ^ 52 % 2 ^ 64) ≡ two_to s n

pub scales : (s : Bool) (n : ℕ) → n ≤ cond s 1022 1023 → Scales (signed s n) s n
scales false n h =
    let k = of_int binary64 (pos n) in
    let is : add binary64 k field_lift ≡ of_int binary64 (pos (2 ^ 52 + (1023 + n))) =
    ap (add binary64 k) field_lift_is ∙ whole_sum binary64 n (2 ^ 52 + 1023) (le_trans h (lit≤ tt)) (lit≤ tt) ∙ ap (λ (i : ℕ). of_int binary64 (pos i)) (turn n) in
    let J : 0 < 1023 + n = omega arith in
    let S : 1023 + n < 2047 = omega arith in
    record {
      sum_is_no_nan = sum_no_nan k (1023 + n) J S is;
      pattern_is_no_nan = pattern_no_nan k (1023 + n) J S is;
      gives = ap (of_bits binary64) (pattern_is k (1023 + n) J S is) ∙ two_to_up n h;
    }
  where
    turn : (n : ℕ) → n + (2 ^ 52 + 1023) ≡ 2 ^ 52 + (1023 + n)
    turn n = omega arith
scales true n h =
    let k = neg (of_int binary64 (pos n)) in
    let is : add binary64 k field_lift ≡ of_int binary64 (pos (2 ^ 52 + (1023 - n))) =
    ap (add binary64 k) field_lift_is ∙ whole_less binary64 n (2 ^ 52 + 1023) (le_trans h (lit≤ tt)) (lit≤ tt) (under n h) ∙ ap (λ (i : ℕ). of_int binary64 (pos i)) (turn n h) in
    let J : 0 < 1023 - n = omega arith in
    let S : 1023 - n < 2047 = omega arith in
    record {
      sum_is_no_nan = sum_no_nan k (1023 - n) J S is;
      pattern_is_no_nan = pattern_no_nan k (1023 - n) J S is;
      gives = ap (of_bits binary64) (pattern_is k (1023 - n) J S is) ∙ two_to_down n h;
    }
  where
    under : (n : ℕ) → n ≤ 1022 → n < 2 ^ 52 + 1023
    under n h = omega arith

    turn : (n : ℕ) → n ≤ 1022 → 2 ^ 52 + 1023 - n ≡ 2 ^ 52 + (1023 - n)
    turn n h = omega arith

pub scales_of : (x k : Float) → Inside x → k ≡ signed (below x) (halvings x) → Scales k (below x) (halvings x)
scales_of x k inside e = rw e (scales (below x) (halvings x) (few_halvings x inside.1 inside.2))
