-- Bounds by powers of two: what is at most 2 ^ j in size stays so when it is rounded, and products and sums of such numbers are finite. Assumes nothing.
use mathlib.Core.Path.{◌≡◌, ap}
use mathlib.Core.Bool.{Bool, true, false, ◌&&◌, cond, beq, true≢false}
use Prim.Native.Nat.{ℕ, suc, ◌+◌, ◌-◌, ◌*◌, ◌^◌, ◌≤◌, ◌<◌}
use native.Mathlib.Nat.{le_trans, mul-pos, mul-le-mul, mul-le-mul_right, le_of_mul-le-mul_right, mul-one, one-mul, zero-lt-suc, two-pow-succ}
use native.Mathlib.Omega.{arith}
use lib.Dec.{T, ltb}
use lib.Pow.{pow-add, pow-lt, pow_mono}
use lib.Ieee.{Float, nan, inf, fin, Format, binary32, binary64, prec, emax, low, unlike, up, down, round, sum, add, sub, mul, neg, lt, le, eq}
use lib.Ieee.Exact.{HasValue, round_exact}
use lib.Ieee.Fits.{down_pos}
use lib.Ieee.Order.{round_mono}
use Rattle.numbers.specs.Sizes.{absolute}
use Rattle.elementary.proofs.Roundings.{absolute_round, le_sizes}

-- x is finite and at most 2 ^ j in size
abbrev pub Within : Float → ℕ → Type 0
Within nan j = ⊥
Within (inf s) j = ⊥
Within (fin s m e) j = m * up e ≤ 2 ^ j * down e

pub looser : (x : Float) (i j : ℕ) → i ≤ j → Within x i → Within x j
looser nan i j h w = w
looser (inf s) i j h w = w
looser (fin s m e) i j h w = le_trans w (mul-le-mul_right (down e) (pow_mono h))

pub neg_within : (x : Float) (j : ℕ) → Within x j → Within (neg x) j
unfolding neg
neg_within nan j w = w
neg_within (inf s) j w = w
neg_within (fin s m e) j w = w

-- ---- one rounding
power_value : (f : Format) (j : ℕ) → j ≤ emax f → HasValue (round f false (2 ^ j) 1) false (2 ^ j) 1
power_value f j h = round_exact f false (2 ^ j) 1 1 (j + low f) (zero-lt-suc 0) (one_digit f) (rw one-mul (pow-lt (room (emax f) (low f) h))) (turn (2 ^ j) (2 ^ low f) (2 ^ (j + low f)) (pow-add 2 j (low f)))
  where
    one_digit : (f : Format) → 1 < 2 ^ prec f
    one_digit binary32 = omega arith
    one_digit binary64 = omega arith

    room : (e l : ℕ) → j ≤ e → j + l < l + suc e
    room e l h = omega arith

    turn : (a b c : ℕ) → c ≡ a * b → a * b ≡ 1 * c * 1
    turn a b c e = omega arith

below_power : (x y : Float) (j : ℕ) → HasValue y false (2 ^ j) 1 → T (le (absolute x) y) → Within x j
unfolding le lt eq absolute
below_power nan y j v t = absurd t
below_power (inf s) nan j v t = absurd t
below_power (inf s) (inf u) j v t = absurd v
below_power (inf s) (fin u n d) j v t = absurd t
below_power (fin s m e) nan j v t = absurd v
below_power (fin s m e) (inf u) j v t = absurd v
below_power (fin s m e) (fin true n d) j v t = absurd (true≢false v.0)
below_power (fin s m e) (fin false n d) j v t = turn (m * up e) (n * up d) (down e) (down d) (down_pos d) v.1 (le_sizes m e n d t)
  where
    turn : (M N d c : ℕ) → 0 < c → N * 1 ≡ 2 ^ j * c → M * c ≤ N * d → M ≤ 2 ^ j * d
    turn M N d c C e h = go (2 ^ j) e
      where
        go : (P : ℕ) → N * 1 ≡ P * c → M ≤ P * d
        go P e = le_of_mul-le-mul_right {k = c} (omega (arith, ap (λ (z : ℕ). z * d) e)) C

pub round_within : (f : Format) (s : Bool) (a c j : ℕ) → 0 < c → j ≤ emax f → a ≤ 2 ^ j * c → Within (round f s a c) j
round_within f s a c j C h l =
    below_power (round f s a c) (round f false (2 ^ j) 1) j (power_value f j h)
    (rw (absolute_round f s a c) (round_mono f a c (2 ^ j) 1 C (zero-lt-suc 0) (rw mul-one l)))

-- ---- products and sums
pub mul_within : (f : Format) (x y : Float) (i j : ℕ) → i + j ≤ emax f → Within x i → Within y j → Within (mul f x y) (i + j)
unfolding mul
mul_within f nan y i j h v w = absurd v
mul_within f (inf s) y i j h v w = absurd v
mul_within f (fin s m e) nan i j h v w = absurd w
mul_within f (fin s m e) (inf t) i j h v w = absurd w
mul_within f (fin s m e) (fin t n d) i j h v w =
    round_within f (unlike s t) (m * up e * (n * up d)) (down e * down d) (i + j) (mul-pos (down_pos e) (down_pos d)) h
    (rw (pow-add 2 i j) (turn (m * up e) (n * up d) (2 ^ i) (2 ^ j) (down e) (down d) (mul-le-mul v w)))
  where
    turn : (M N P Q d c : ℕ) → M * N ≤ P * d * (Q * c) → M * N ≤ P * Q * (d * c)
    turn M N P Q d c h = omega arith

sum_within : (f : Format) (s t : Bool) (X Y D j : ℕ) → 0 < D → suc j ≤ emax f → X ≤ 2 ^ j * D → Y ≤ 2 ^ j * D → Within (sum f s X t Y D) (suc j)
unfolding sum
sum_within f s t X Y D j p h a b = go (beq s t) (ltb X Y)
  where
    twice : (Z P : ℕ) → X ≤ P * D → Y ≤ P * D → Z ≤ X + Y → Z ≤ (P + P) * D
    twice Z P a b l = omega arith

    at : (u : Bool) (Z : ℕ) → Z ≤ X + Y → Within (round f u Z D) (suc j)
    at u Z l = round_within f u Z D (suc j) p h (rw (two-pow-succ j) (twice Z (2 ^ j) a b l))

    go : (u v : Bool) → Within (cond u (round f s (X + Y) D) (cond v (round f t (Y - X) D) (round f (s && ltb Y X) (X - Y) D))) (suc j)
    go true v = at s (X + Y) (omega arith)
    go false true = at t (Y - X) (omega arith)
    go false false = at (s && ltb Y X) (X - Y) (omega arith)

pub add_within : (f : Format) (x y : Float) (j : ℕ) → suc j ≤ emax f → Within x j → Within y j → Within (add f x y) (suc j)
unfolding add
add_within f nan y j h v w = absurd v
add_within f (inf s) y j h v w = absurd v
add_within f (fin s m e) nan j h v w = absurd w
add_within f (fin s m e) (inf t) j h v w = absurd w
add_within f (fin s m e) (fin t n d) j h v w =
    sum_within f s t (m * up e * down d) (n * up d * down e) (down e * down d) j (mul-pos (down_pos e) (down_pos d)) h
    (over (m * up e) (2 ^ j) (down e) (down d) (mul-le-mul_right (down d) v)) (over' (n * up d) (2 ^ j) (down d) (down e) (mul-le-mul_right (down e) w))
  where
    over : (M P d c : ℕ) → M * c ≤ P * d * c → M * c ≤ P * (d * c)
    over M P d c h = omega arith

    over' : (M P d c : ℕ) → M * c ≤ P * d * c → M * c ≤ P * (c * d)
    over' M P d c h = omega arith

pub sub_within : (f : Format) (x y : Float) (j : ℕ) → suc j ≤ emax f → Within x j → Within y j → Within (sub f x y) (suc j)
unfolding sub
sub_within f x y j h v w = add_within f x (neg y) j h v (neg_within y j w)
