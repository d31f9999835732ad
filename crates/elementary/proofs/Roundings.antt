-- What a rounding and the nearest whole number keep: the sign, the size, and the order. Assumes nothing.
use mathlib.Core.Path.{◌≡◌, refl, sym, ap, ◌∙◌}
use mathlib.Core.Bool.{Bool, true, false, ◌&&◌, ◌||◌, cond}
use Prim.Native.Nat.{ℕ, zero, suc, ◌+◌, ◌*◌, ◌^◌, ◌≤◌, ◌<◌, min, zero-le}
use native.Mathlib.Nat.{le_refl, le_of_lt, le_of_eq}
use native.Mathlib.Omega.{arith}
use lib.IntN.{ℤ}
use lib.Dec.{T, ltb, eqb, ltb→lt, eqb→eq}
use lib.Ieee.{Float, nan, inf, fin, Format, prec, low, up, down, odd, units, is_nan, round, lt, le, eq, of_bits}
use lib.Ieee.Fits.{round_is, down_pos, and_l, and_r}
use lib.Ieee.Nearest.{div_mono}
use lib.Ieee.Order.{drop, kept}
use lib.Ieee.Scale.{overflow}
use Rattle.numbers.specs.Clamps.{plus_zero}
use Rattle.numbers.specs.Sizes.{absolute}
use Rattle.numbers.specs.Whole.{nearest_to, nearest_whole, largest}
use Rattle.numbers.proofs.Ratios.{nearest_of_ratio}

-- ---- the size of a rounding is the rounding of the size
absolute_odd : (d : ℕ) (s : Bool) (q k l : ℕ) → absolute (odd d s q k l) ≡ odd d false q k l
unfolding absolute odd
absolute_odd d s zero k l = refl
absolute_odd d s (suc q) k l = refl

absolute_units : (f : Format) (s : Bool) (q k : ℕ) → absolute (units f s q k) ≡ units f false q k
unfolding absolute units
absolute_units f s q k = go (ltb (q * 2 ^ k) (overflow f))
  where
    go : (b : Bool) → absolute (cond b (odd (suc (prec f)) s q k (low f)) (inf s)) ≡ cond b (odd (suc (prec f)) false q k (low f)) (inf false)
    go true = absolute_odd (suc (prec f)) s q k (low f)
    go false = refl

pub absolute_round : (f : Format) (s : Bool) (a c : ℕ) → absolute (round f s a c) ≡ round f false a c
absolute_round f s a c =
    ap absolute (round_is f s a c)
    ∙ absolute_units f s (kept (prec f) (a * 2 ^ low f) c) (drop (prec f) (a * 2 ^ low f) c)
    ∙ sym (round_is f false a c)

-- ---- a rounding is no NaN
odd_no_nan : (d : ℕ) (s : Bool) (q k l : ℕ) → is_nan (odd d s q k l) ≡ false
unfolding odd is_nan
odd_no_nan d s zero k l = refl
odd_no_nan d s (suc q) k l = refl

units_no_nan : (f : Format) (s : Bool) (q k : ℕ) → is_nan (units f s q k) ≡ false
unfolding units is_nan
units_no_nan f s q k = go (ltb (q * 2 ^ k) (overflow f))
  where
    go : (b : Bool) → is_nan (cond b (odd (suc (prec f)) s q k (low f)) (inf s)) ≡ false
    go true = odd_no_nan (suc (prec f)) s q k (low f)
    go false = refl

pub round_no_nan : (f : Format) (s : Bool) (a c : ℕ) → is_nan (round f s a c) ≡ false
round_no_nan f s a c = ap is_nan (round_is f s a c) ∙ units_no_nan f s (kept (prec f) (a * 2 ^ low f) c) (drop (prec f) (a * 2 ^ low f) c)

-- ---- a size is not below zero
pub size_not_below : (x : Float) → lt (absolute x) plus_zero ≡ false
unfolding lt absolute of_bits
size_not_below nan = refl
size_not_below (inf s) = refl
size_not_below (fin s m e) = none (ltb (m * up e * 1) (0 * 1 * down e)) (λ t. no (m * up e) (down e) (ltb→lt (m * up e * 1) (0 * 1 * down e) t))
  where
    no : (a d : ℕ) → a * 1 < 0 * 1 * d → ⊥
    no a d h = omega arith

    none : (b : Bool) → (T b → ⊥) → b ≡ false
    none true h = absurd (h tt)
    none false h = refl

-- ---- of two numbers the larger has no smaller nearest whole number
nearest_mono : (a b c d : ℕ) → 0 < b → 0 < d → a * d ≤ c * b → min (nearest_to a b) largest ≤ min (nearest_to c d) largest
nearest_mono a b c d B D h = capped (div_mono (a * 2 + b) (b * 2) (c * 2 + d) (d * 2) (twice B) (twice D) (turn h))
  where
    twice : {n : ℕ} → 0 < n → 0 < n * 2
    twice l = omega arith

    turn : a * d ≤ c * b → (a * 2 + b) * (d * 2) ≤ (c * 2 + d) * (b * 2)
    turn l = omega arith

    capped : {p q : ℕ} → p ≤ q → min p largest ≤ min q largest
    capped l = omega arith

either : (a b : Bool) {G : Type 0} → T (a || b) → (T a → G) → (T b → G) → G
either true b t p q = p tt
either false b t p q = q t

pub le_sizes : (m : ℕ) (e : ℤ) (n : ℕ) (d : ℤ) → T (le (fin false m e) (fin false n d)) → m * up e * down d ≤ n * up d * down e
unfolding le lt eq
le_sizes m e n d t =
    let A = m * up e * down d in
    let B = n * up d * down e in
    either (ltb A B) (eqb A B && true) t (λ u. le_of_lt (ltb→lt A B u)) (λ u. le_of_eq (eqb→eq A B (and_l (eqb A B) true u)))

-- where a number times one above 0 is 0, the number is
pub zero_factor : (a d : ℕ) → 0 < d → a * d ≡ 0 → a ≡ 0
zero_factor zero d l h = refl
zero_factor (suc a) d l h = absurd (omega arith)

pub nearest_no_less : (x y : Float) → T (le x y) → nearest_whole x ≤ nearest_whole y
unfolding le lt eq nearest_whole
nearest_no_less nan y t = absurd t
nearest_no_less (inf true) y t = zero-le
nearest_no_less (inf false) nan t = absurd t
nearest_no_less (inf false) (inf true) t = absurd t
nearest_no_less (inf false) (inf false) t = le_refl largest
nearest_no_less (inf false) (fin s n d) t = absurd t
nearest_no_less (fin true m e) y t = zero-le
nearest_no_less (fin false m e) nan t = absurd t
nearest_no_less (fin false m e) (inf true) t = absurd t
nearest_no_less (fin false m e) (inf false) t = capped (nearest_to (m * up e) (down e))
  where
    capped : (k : ℕ) → min k largest ≤ largest
    capped k = omega arith
nearest_no_less (fin false m e) (fin false n d) t =
    nearest_mono (m * up e) (down e) (n * up d) (down d) (down_pos e) (down_pos d) (le_sizes m e n d t)
nearest_no_less (fin false m e) (fin true n d) t =
    let A = m * up e * down d in
    let B = n * up d * down e in
    none (m * up e) (down e) (down_pos e) (zero_factor (m * up e) (down d) (down_pos d) (eqb→eq A 0 (and_r (eqb A B) (eqb A 0) t)))
  where
    none : (a c : ℕ) → 0 < c → a ≡ 0 → min (nearest_to a c) largest ≤ 0
    none a c l z = rw z (rw (nearest_of_ratio.at_nothing c l) (omega arith))
