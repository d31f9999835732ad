-- Truncation: what cutting an amount to 64 bits asks and gives, and two steps beside it that round nothing: x + x, and a whole number to a float. Assumes nothing.
use Rattle.std.proofs.Common.{◌≡◌, ℕ, suc, ◌+◌, ◌-◌, ◌*◌, ◌/◌, ◌^◌, ◌<◌, ◌≤◌, min, Bool, true, false, T, ℤ, pos, refl, ap, ◌∙◌, subst, div-lt_iff_lt-mul, pow-suc, arith, lt→ltb, pow_pos}
use mathlib.Core.Bool.{beq}
use lib.Ieee.{Float, nan, inf, fin, Format, binary32, binary64, prec, low, up, down, fits, lt, add, sum, round, of_int, to_unsigned}
use lib.Ieee.Back.{round_whole}
use lib.Ieee.Exact.{HasValue}
use lib.Ieee.Fits.{down_pos}
use lib.Ieee.Scale.{overflow, round_same}
use Rattle.numbers.specs.Units.{count}
use Rattle.numbers.proofs.Amounts.{amount, Counts, Held, counts, held, negative_counts_nothing}
use Rattle.numbers.proofs.Order.{common, lt_amount}
use Rattle.numbers.proofs.Ratios.{cut_of_ratio, cut_is, by_count}
use Rattle.numbers.proofs.Snap.{round_held}

-- ---- an amount below 2 ^ 64 is cut to its whole part
above_minus_one : (f : Format) (y : Float) → T (amount f y) → T (lt (fin true 1 (pos 0)) y)
unfolding lt amount
above_minus_one f nan t = absurd t
above_minus_one f (inf s) t = absurd t
above_minus_one f (fin false m e) t = lt→ltb 0 (1 * 1 * down e + m * up e * 1) (some (down e) (m * up e * 1) (down_pos e))
  where
    some : (d x : ℕ) → 0 < d → 0 < 1 * 1 * d + x
    some d x h = omega arith
above_minus_one f (fin true m e) t = lt→ltb (m * up e * 1) (1 * 1 * down e) (rw ((counts f (fin true m e) t).0 tt) (some (up e) (down e) (down_pos e)))
  where
    some : (u d : ℕ) → 0 < d → 0 * u * 1 < 1 * 1 * d
    some u d h = omega arith

two_to_64 : (f : Format) → T (amount f (fin false 1 (pos 64))) × (count f (fin false 1 (pos 64)) ≡ 2 ^ 64 * 2 ^ low f)
unfolding amount fits count
two_to_64 binary32 = (tt, refl)
two_to_64 binary64 = (tt, refl)

module _ (f : Format) (y : Float) (p : T (amount f y)) (small : count f y < 2 ^ 64 * 2 ^ low f) where
  pub may_be_cut : T (lt (fin true 1 (pos 0)) y) × T (lt y (fin false 1 (pos 64)))
  may_be_cut = (above_minus_one f y p, (lt_amount f y (fin false 1 (pos 64)) p (two_to_64 f).0).1 (rw (two_to_64 f).1 small))

  pub is_cut : to_unsigned 64 y ≡ count f y / 2 ^ low f
  is_cut = cut_is 64 y ∙ by_count _ (2 ^ 64 - 1) cut_of_ratio f y (count f y) (counts f y p) ∙ least ((div-lt_iff_lt-mul (pow_pos (low f))).1 small)
    where
      least : {q : ℕ} → q < 2 ^ 64 → min q (2 ^ 64 - 1) ≡ q
      least h = omega arith

-- ---- x + x is exact
double_is : (f : Format) (s : Bool) (m : ℕ) (e : ℤ) (n : ℕ) → Counts f (fin s m e) n → add f (fin s m e) (fin s m e) ≡ round f s (n * 2) (2 ^ low f)
unfolding add sum
double_is f s m e n c =
    let k = common f s m e s m e n n c c in
    let X = m * up e * down e in
    let D = down e * down e in
    rw (like s) (round_same f s (X + X) D (n * 2) (2 ^ low f) k.denominator k.unit (twice X n (2 ^ low f) D k.first))
  where
    like : (s : Bool) → beq s s ≡ true
    like true = refl
    like false = refl

    twice : (X n L D : ℕ) → X * L ≡ n * D → (X + X) * L ≡ n * 2 * D
    twice X n L D h = omega arith

double_held : (f : Format) (n : ℕ) → Held f n → n * 2 < overflow f → Held f (n * 2)
double_held f n h l = record { digits = h.digits; shift = suc h.shift; small = h.small; is = rw (pow-suc 2 h.shift) (twice n h.digits (2 ^ h.shift) h.is); below = l }
  where
    twice : (n q p : ℕ) → n ≡ q * p → n * 2 ≡ q * (p * 2)
    twice n q p e = omega arith

pub double_counts : (f : Format) (x : Float) → T (amount f x) → count f x * 2 < overflow f → Counts f (add f x x) (count f x * 2)
unfolding amount
double_counts f nan p l = absurd p
double_counts f (inf s) p l = absurd p
double_counts f (fin s m e) p l =
    let n = count f (fin s m e) in
    let c : Counts f (fin s m e) n = counts f (fin s m e) p in
    rw (double_is f s m e n c)
    (round_held f s (n * 2) (λ t. ap (λ (k : ℕ). k * 2) (negative_counts_nothing f s m e n c t)) (double_held f n (held f (fin s m e) p) l))

-- ---- a whole number that the format counts without a gap
pub whole_counts : (f : Format) (k : ℕ) → k ≤ 2 ^ prec f → Counts f (of_int f (pos k)) (k * 2 ^ low f)
unfolding of_int
whole_counts f k h = in_units (round f false k 1) (round_whole f false k h)
  where
    turn : (a k d L : ℕ) → a * 1 ≡ k * d → a * L ≡ k * L * d
    turn a k d L e = omega (arith, ap (λ (z : ℕ). z * L) e)

    in_units : (x : Float) → HasValue x false k 1 → Counts f x (k * 2 ^ low f)
    in_units nan v = v
    in_units (inf s) v = v
    in_units (fin s m e) v = (λ (t : T s). absurd (subst T v.0 t), turn (m * up e) k (down e) (2 ^ low f) v.1)
