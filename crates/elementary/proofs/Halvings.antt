-- From -708 to 709 the k of exp is at most 1,023, and below zero at most 1,022: 2 ^ k is a normal number. Assumes nothing.
use mathlib.Core.Path.{◌≡◌, refl, sym, ap, ◌∙◌, subst}
use mathlib.Core.Bool.{Bool, true, false, cond}
use Prim.Native.Nat.{ℕ, ◌*◌, ◌^◌, ◌≤◌}
use native.Mathlib.Nat.{le_trans, le_of_eq, mul-pos, mul-le-mul_right}
use native.Mathlib.Omega.{arith}
use borrow.Author.Tests.{ltb-false}
use lib.IntN.{ℤ, negsuc}
use lib.Dec.{T, lit≤}
use lib.Pow.{pow_pos}
use lib.Ieee.{Float, nan, inf, fin, binary64, unlike, up, down, round, mul, lt, of_bits}
use lib.Ieee.Fits.{down_pos}
use lib.Ieee.Order.{round_mono}
use Rattle.numbers.specs.Literals.{seven_hundred_nine, minus_seven_hundred_eight, inverse_ln2}
use Rattle.numbers.specs.Clamps.{plus_zero}
use Rattle.numbers.specs.Sizes.{absolute}
use Rattle.numbers.specs.Whole.{nearest_whole}
use Rattle.elementary.specs.Exp.{below, halvings}
use Rattle.elementary.proofs.Roundings.{absolute_round, size_not_below, nearest_no_less}

-- inverseLn2 as a fraction of 2 ^ 51
abbrev pub numerator : ℕ
numerator = 3248660424278399

inverse_is : inverse_ln2 ≡ fin false numerator (negsuc 50)
unfolding of_bits
inverse_is = refl

product : (s : Bool) (m : ℕ) (e : ℤ) → mul binary64 (fin s m e) inverse_ln2 ≡ round binary64 (unlike s false) (m * up e * (numerator * 1)) (down e * 2 ^ 51)
product s m e = ap (mul binary64 (fin s m e)) inverse_is ∙ opened
  where
    opened : mul binary64 (fin s m e) (fin false numerator (negsuc 50)) ≡ round binary64 (unlike s false) (m * up e * (numerator * 1)) (down e * 2 ^ 51)
    opened = unfold mul in refl

pub product_size : (s : Bool) (m : ℕ) (e : ℤ) → absolute (mul binary64 (fin s m e) inverse_ln2) ≡ round binary64 false (m * up e * (numerator * 1)) (down e * 2 ^ 51)
product_size s m e = ap absolute (product s m e) ∙ absolute_round binary64 (unlike s false) (m * up e * (numerator * 1)) (down e * 2 ^ 51)

-- no more than at the bound B
halvings_at_most : (B : ℕ) (s : Bool) (m : ℕ) (e : ℤ) → m * up e ≤ B * down e → halvings (fin s m e) ≤ nearest_whole (round binary64 false (B * numerator) (2 ^ 51))
unfolding halvings
halvings_at_most B s m e h =
    rw (product_size s m e)
    (nearest_no_less (round binary64 false (m * up e * (numerator * 1)) (down e * 2 ^ 51)) (round binary64 false (B * numerator) (2 ^ 51))
    (round_mono binary64 (m * up e * (numerator * 1)) (down e * 2 ^ 51) (B * numerator) (2 ^ 51) (mul-pos (down_pos e) (pow_pos 51)) (pow_pos 51)
    (turn (m * up e) (down e) numerator (2 ^ 51) (mul-le-mul_right (numerator * 2 ^ 51) h))))
  where
    turn : (M d N D : ℕ) → M * (N * D) ≤ B * d * (N * D) → M * (N * 1) * D ≤ B * N * (d * D)
    turn M d N D h = omega arith

at_709 : nearest_whole (round binary64 false (709 * numerator) (2 ^ 51)) ≡ 1023
unfolding nearest_whole round
at_709 = refl

at_708 : nearest_whole (round binary64 false (708 * numerator) (2 ^ 51)) ≡ 1021
unfolding nearest_whole round
at_708 = refl

-- ---- from the tests
not_above_lem : (m : ℕ) (e : ℤ) → lt seven_hundred_nine (fin false m e) ≡ false → m * up e ≤ 709 * down e
unfolding lt of_bits
not_above_lem m e h = plain (m * up e) (down e) (ltb-false (709 * 1 * down e) (m * up e * 1) h)
  where
    plain : (a d : ℕ) → a * 1 ≤ 709 * 1 * d → a ≤ 709 * d
    plain a d h = omega arith

not_beneath : (m : ℕ) (e : ℤ) → lt (fin true m e) minus_seven_hundred_eight ≡ false → m * up e ≤ 708 * down e
unfolding lt of_bits
not_beneath m e h = plain (m * up e) (down e) (ltb-false (177 * 4 * down e) (m * up e * 1) h)
  where
    plain : (a d : ℕ) → a * 1 ≤ 177 * 4 * d → a ≤ 708 * d
    plain a d h = omega arith

pub in_range : (s : Bool) (m : ℕ) (e : ℤ) → lt seven_hundred_nine (fin s m e) ≡ false → lt (fin s m e) minus_seven_hundred_eight ≡ false → m * up e ≤ 709 * down e
in_range false m e a b = not_above_lem m e a
in_range true m e a b = le_trans (not_beneath m e b) (mul-le-mul_right (down e) (lit≤ tt))

plus_not_below : (m : ℕ) (e : ℤ) → below (fin false m e) ≡ false
unfolding below
plus_not_below m e =
    ap (λ (y : Float). lt y plus_zero) (product false m e ∙ sym (absolute_round binary64 false (m * up e * (numerator * 1)) (down e * 2 ^ 51)))
    ∙ size_not_below (round binary64 false (m * up e * (numerator * 1)) (down e * 2 ^ 51))

pub few_halvings : (x : Float) → lt seven_hundred_nine x ≡ false → lt x minus_seven_hundred_eight ≡ false → halvings x ≤ cond (below x) 1022 1023
few_halvings nan a b = at_nan
  where
    at_nan : halvings nan ≤ cond (below nan) 1022 1023
    at_nan = unfold halvings below mul absolute nearest_whole lt in lit≤ tt
few_halvings (inf true) a b = absurd (unfold lt of_bits in subst T b tt)
few_halvings (inf false) a b = absurd (unfold lt of_bits in subst T a tt)
few_halvings (fin false m e) a b = rw (plus_not_below m e) (le_trans (halvings_at_most 709 false m e (not_above_lem m e a)) (le_of_eq at_709))
few_halvings (fin true m e) a b = either (below (fin true m e)) (le_trans (halvings_at_most 708 true m e (not_beneath m e b)) (le_of_eq at_708))
  where
    either : (b : Bool) {n : ℕ} → n ≤ 1021 → n ≤ cond b 1022 1023
    either true h = omega arith
    either false h = omega arith

pub at_most_1023 : (x : Float) → lt seven_hundred_nine x ≡ false → lt x minus_seven_hundred_eight ≡ false → halvings x ≤ 1023
at_most_1023 x a b = either (below x) (few_halvings x a b)
  where
    either : (b : Bool) {n : ℕ} → n ≤ cond b 1022 1023 → n ≤ 1023
    either true h = omega arith
    either false h = omega arith
