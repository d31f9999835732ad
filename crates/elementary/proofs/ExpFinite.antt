-- exp's steps from -708 to 709 meet neither a NaN nor, before the last product, an infinity. Assumes nothing.
use mathlib.Core.Path.{◌≡◌, subst}
use mathlib.Core.Bool.{Bool, true, false, cond}
use Prim.Native.Nat.{ℕ, zero, suc, ◌+◌, ◌*◌, ◌^◌, ◌≤◌, ◌<◌}
use native.Mathlib.Nat.{le_trans, mul-pos, mul-one, zero-lt-suc, mul-le-mul_right}
use native.Mathlib.Omega.{arith}
use lib.IntN.{ℤ}
use lib.Dec.{lit≤}
use lib.Pow.{pow_pos, pow_mono}
use lib.Ieee.{Float, nan, inf, fin, Format, binary64, unlike, up, down, is_nan, round, add, sub, mul, neg, lt, of_int, of_bits}
use Rattle.numbers.specs.Literals.{seven_hundred_nine, minus_seven_hundred_eight, ln2_high, ln2_low}
use Rattle.elementary.specs.Horner.{horner}
use Rattle.elementary.specs.Exp.{factorial, inverse_factorial, below, halvings, signed, two_to, reduced, exp_within}
use Rattle.elementary.proofs.Bounds.{Within, looser, neg_within, round_within, mul_within, add_within, sub_within}
use Rattle.elementary.proofs.Roundings.{round_no_nan}
use Rattle.elementary.proofs.Halvings.{in_range, at_most_1023}

-- ---- a product of finite numbers is no NaN
product_no_nan : (f : Format) (x y : Float) (i j : ℕ) → Within x i → Within y j → is_nan (mul f x y) ≡ false
unfolding mul
product_no_nan f nan y i j v w = absurd v
product_no_nan f (inf s) y i j v w = absurd v
product_no_nan f (fin s m e) nan i j v w = absurd w
product_no_nan f (fin s m e) (inf t) i j v w = absurd w
product_no_nan f (fin s m e) (fin t n d) i j v w = round_no_nan f (unlike s t) (m * up e * (n * up d)) (down e * down d)

-- ---- the series
factorial_pos : (k : ℕ) → 0 < factorial k
unfolding factorial
factorial_pos zero = zero-lt-suc 0
factorial_pos (suc k) = mul-pos (zero-lt-suc k) (factorial_pos k)

coefficient_within : (k : ℕ) → Within (inverse_factorial k) 0
unfolding inverse_factorial
coefficient_within k = round_within binary64 false 1 (factorial k) 0 (factorial_pos k) (omega arith) (plain (factorial k) (factorial_pos k))
  where
    plain : (n : ℕ) → 0 < n → 1 ≤ 1 * n
    plain n h = omega arith

-- each turn takes the bound 13 places further
series_within : (a : ℕ → Float) (r : Float) → ((k : ℕ) → Within (a k) 0) → Within r 12 → (j m : ℕ) → m ≤ 13 → Within (horner a r j m) (13 * m)
unfolding horner
series_within a r c w j zero h = c j
series_within a r c w j (suc m) h =
    subst (λ (i : ℕ). Within (add binary64 (mul binary64 (horner a r (suc j) m) r) (a j)) i) (next m)
    (add_within binary64 (mul binary64 (horner a r (suc j) m) r) (a j) (13 * m + 12) (room m h)
    (mul_within binary64 (horner a r (suc j) m) r (13 * m) 12 (room' m h) (series_within a r c w (suc j) m (omega arith)) w)
    (looser (a j) 0 (13 * m + 12) (omega arith) (c j)))
  where
    next : (m : ℕ) → suc (13 * m + 12) ≡ 13 * suc m
    next m = omega arith

    room : (m : ℕ) → suc m ≤ 13 → suc (13 * m + 12) ≤ 1023
    room m h = omega arith

    room' : (m : ℕ) → suc m ≤ 13 → 13 * m + 12 ≤ 1023
    room' m h = omega arith

-- ---- what is left after the multiple of ln 2
high_within : Within ln2_high 0
unfolding of_bits
high_within = lit≤ tt

low_within : Within ln2_low 0
unfolding of_bits
low_within = lit≤ tt

signed_within : (s : Bool) (k : ℕ) → k ≤ 1023 → Within (signed s k) 10
unfolding of_int
signed_within s k h = go s
  where
    plus : Within (round binary64 false k 1) 10
    plus = round_within binary64 false k 1 10 (zero-lt-suc 0) (omega arith) (omega arith)

    go : (s : Bool) → Within (cond s (neg (round binary64 false k 1)) (round binary64 false k 1)) 10
    go true = neg_within (round binary64 false k 1) 10 plus
    go false = plus

reduced_within : (x k : Float) → Within x 10 → Within k 10 → Within (reduced x k) 12
unfolding reduced
reduced_within x k v w =
    sub_within binary64 (sub binary64 x (mul binary64 k ln2_high)) (mul binary64 k ln2_low) 11 (omega arith)
    (sub_within binary64 x (mul binary64 k ln2_high) 10 (omega arith) v (mul_within binary64 k ln2_high 10 0 (omega arith) w high_within))
    (looser (mul binary64 k ln2_low) 10 11 (omega arith) (mul_within binary64 k ln2_low 10 0 (omega arith) w low_within))

two_to_within : (s : Bool) (k : ℕ) → k ≤ 1023 → Within (two_to s k) 1023
unfolding two_to
two_to_within false k h = round_within binary64 false (2 ^ k) 1 1023 (zero-lt-suc 0) (omega arith) (rw mul-one (pow_mono h))
two_to_within true k h = round_within binary64 false 1 (2 ^ k) 1023 (pow_pos k) (omega arith) (mul-pos (pow_pos 1023) (pow_pos k))

within_range : (s : Bool) (m : ℕ) (e : ℤ) → lt seven_hundred_nine (fin s m e) ≡ false → lt (fin s m e) minus_seven_hundred_eight ≡ false → Within (fin s m e) 10
within_range s m e a b = le_trans (in_range s m e a b) (mul-le-mul_right (down e) (lit≤ tt))

pub steps_no_nan : (s : Bool) (m : ℕ) (e : ℤ) → lt seven_hundred_nine (fin s m e) ≡ false → lt (fin s m e) minus_seven_hundred_eight ≡ false → is_nan (exp_within (fin s m e)) ≡ false
unfolding exp_within
steps_no_nan s m e a b =
    let x = fin s m e in
    let k = at_most_1023 x a b in
    product_no_nan binary64 (horner inverse_factorial (reduced x (signed (below x) (halvings x))) 0 13) (two_to (below x) (halvings x)) (13 * 13) 1023
    (series_within inverse_factorial (reduced x (signed (below x) (halvings x))) coefficient_within (reduced_within x (signed (below x) (halvings x)) (within_range s m e a b) (signed_within (below x) (halvings x) k)) 0 13 (omega arith))
    (two_to_within (below x) (halvings x) k)
