-- ln's definition case by case, and its m and e by the bit pattern of x, or of x * 2 ^ 54 for a subnormal. Assumes nothing.
use mathlib.Core.Path.{◌≡◌, refl, ap, ap₂, ◌∙◌, subst}
use mathlib.Core.Bool.{true, false, not}
use mathlib.Core.Logic.{◌⊎◌, inl, inr}
use Prim.Native.Nat.{ℕ, zero, suc, ◌+◌, ◌*◌, ◌/◌, ◌%◌, ◌^◌, ◌≤◌, ◌<◌}
use native.Mathlib.Nat.{mul-one, mul-pos, mul-div_cancel, zero-lt-suc, lt_of_lt_of_le}
use native.Mathlib.Omega.{arith}
use borrow.Author.Tests.{ltb-true}
use lib.IntN.{ℤ, sub_ℕ}
use lib.Dec.{T, lit≤}
use lib.Pow.{pow_pos, shl_lt}
use lib.Ieee.{Float, nan, inf, fin, binary64, up, down, fits, round, mul, lt, of_bits, to_bits, nan_bits}
use lib.Ieee.Exact.{HasValue, round_exact}
use lib.Ieee.Fits.{up_pos, down_pos}
use lib.Ieee.Scale.{finite, round_same}
use Rattle.numbers.specs.Literals.{root_two}
use Rattle.numbers.specs.Clamps.{plus_zero}
use Rattle.numbers.specs.Units.{count, units}
use Rattle.numbers.proofs.Amounts.{passes, amount, Held, counts, held}
use Rattle.numbers.proofs.Order.{lt_amount}
use Rattle.elementary.specs.Ln.{ln_by, ln}
use Rattle.numbers.proofs.Values.{pattern_by_count, pattern_of_value}
use Rattle.elementary.proofs.Leading.{ReadOff, read_off}

-- ---- the smallest normal number and the factor of the subnormals, 2 ^ -1022 and 2 ^ 54
abbrev pub smallest_normal : Float
smallest_normal = of_bits binary64 0x0010_0000_0000_0000

abbrev pub scale : Float
scale = of_bits binary64 0x4350_0000_0000_0000

smallest_amount : T (amount binary64 smallest_normal)
unfolding amount fits of_bits
smallest_amount = tt

smallest_units : units smallest_normal ≡ 2 ^ 52
unfolding count of_bits
smallest_units = refl

-- ---- n * 2 ^ k above zero, of c units
module _ (n : ℕ) (k : ℤ) (p : T (amount binary64 (fin false (suc n) k))) where
  abbrev x : Float
  x = fin false (suc n) k

  abbrev c : ℕ
  c = units x

  in_units : suc n * up k * 2 ^ 1074 ≡ c * down k
  in_units = (counts binary64 x p).1

  some : 0 < c
  some = go c (suc n * up k * 2 ^ 1074) (down k) in_units (mul-pos (mul-pos (zero-lt-suc n) (up_pos k)) (pow_pos 1074))
    where
      go : (c x d : ℕ) → x ≡ c * d → 0 < x → 0 < c
      go zero x d e h = absurd (omega arith)
      go (suc c) x d e h = zero-lt-suc c

  read_normal : lt x smallest_normal ≡ false → ReadOff (suc n) k (to_bits binary64 x) 1023
  read_normal h =
      rw (pattern_by_count binary64 false (suc n) k)
      (read_off (suc n) c c k 0 (zero-lt-suc n) some in_units (mul-one c) (held binary64 x p)
      (rw (← smallest_units) (no_more (λ g. subst T h ((lt_amount binary64 x smallest_normal p smallest_amount).1 g)))))
    where
      no_more : {a b : ℕ} → (a < b → ⊥) → b ≤ a
      no_more h = omega (arith, h)

  -- a subnormal times 2 ^ 54 is exact
  module _ (h : lt x smallest_normal ≡ true) where
    few : c < 2 ^ 52
    few = rw smallest_units at ((lt_amount binary64 x smallest_normal p smallest_amount).0 (passes h))

    scaled_small : c * 2 ^ 54 < 2 ^ 2098
    scaled_small = lt_of_lt_of_le (shl_lt 52 54 few) (lit≤ tt)

    scaled_held : Held binary64 (c * 2 ^ 54)
    scaled_held = record { digits = c; shift = 54; small = lt_of_lt_of_le few (lit≤ tt); is = refl; below = scaled_small }

    scaled_is : mul binary64 x scale ≡ round binary64 false (c * 2 ^ 54) (2 ^ 1074)
    unfolding mul of_bits
    scaled_is = round_same binary64 false (suc n * up k * (1 * 2 ^ 54)) (down k * 1) (c * 2 ^ 54) (2 ^ 1074) (mul-pos (down_pos k) (zero-lt-suc 0)) (pow_pos 1074) (turn (suc n * up k) (2 ^ 1074) c (down k) (2 ^ 54) in_units)
      where
        turn : (M L c d S : ℕ) → M * L ≡ c * d → M * (1 * S) * L ≡ c * S * (d * 1)
        turn M L c d S e = omega (arith, ap (λ (z : ℕ). z * S) e)

    scaled_value : HasValue (mul binary64 x scale) false (c * 2 ^ 54) (2 ^ 1074)
    scaled_value = rw scaled_is (round_exact binary64 false (c * 2 ^ 54) (2 ^ 1074) c 54 (pow_pos 1074) (lt_of_lt_of_le few (lit≤ tt)) scaled_small refl)

    scaled_normal : 2 ^ 52 ≤ c * 2 ^ 54
    scaled_normal = go c some
      where
        go : (c : ℕ) → 0 < c → 2 ^ 52 ≤ c * 2 ^ 54
        go c h = omega arith

    read_subnormal : ReadOff (suc n) k (to_bits binary64 (mul binary64 x scale)) 1077
    read_subnormal =
        rw (pattern_of_value binary64 (mul binary64 x scale) false (c * 2 ^ 54) (2 ^ 1074) (pow_pos 1074) scaled_value, mul-div_cancel (c * 2 ^ 54) (pow_pos 1074))
        (read_off (suc n) c (c * 2 ^ 54) k 54 (zero-lt-suc n) some in_units refl scaled_held scaled_normal)

-- ---- what the program reads off the pattern p, with a bias, gives ln x
pub record LnBy (x : Float) (p bias : ℕ) : Type 0 where
  pub no_nan : T (not (nan_bits binary64 (1023 * 2 ^ 52 + p % 2 ^ 52)))
  pub field : p / 2 ^ 52 < 2047
  pub answer : (m : Float) → m ≡ of_bits binary64 (1023 * 2 ^ 52 + p % 2 ^ 52) → ln_by (lt root_two m) m (sub_ℕ (p / 2 ^ 52) bias) ≡ ln x

ln_by_lem : (n : ℕ) (k : ℤ) (p bias : ℕ) → ReadOff (suc n) k p bias → LnBy (fin false (suc n) k) p bias
unfolding ln
ln_by_lem n k p bias r = record { no_nan = r.no_nan; field = r.field; answer = λ m e. ap₂ (λ (m : Float) (e : ℤ). ln_by (lt root_two m) m e) (e ∙ r.leads) r.is }

module _ (P : Float → Type 0) (at : (n : ℕ) (k : ℤ) → T (amount binary64 (fin false (suc n) k)) → P (fin false (suc n) k)) where
  above_zero : (x : Float) → fits binary64 x ≡ true → lt plus_zero x ≡ true → finite x ≡ true → P x
  unfolding lt of_bits amount
  above_zero nan f h g = absurd (passes g)
  above_zero (inf s) f h g = absurd (passes g)
  above_zero (fin true m k) f h g = absurd (passes h)
  above_zero (fin false zero k) f h g = absurd (no (up k) (down k) (ltb-true (0 * 1 * down k) (0 * up k * 1) h))
    where
      no : (u d : ℕ) → 0 * 1 * d < 0 * u * 1 → ⊥
      no u d h = omega arith
  above_zero (fin false (suc n) k) f h g = at n k (passes f)

ln_normal : (x : Float) → fits binary64 x ≡ true → lt plus_zero x ≡ true → finite x ≡ true → lt x smallest_normal ≡ false → LnBy x (to_bits binary64 x) 1023
ln_normal = above_zero (λ x. lt x smallest_normal ≡ false → LnBy x (to_bits binary64 x) 1023) (λ n k p h. ln_by_lem n k (to_bits binary64 (fin false (suc n) k)) 1023 (read_normal n k p h))

ln_subnormal : (x : Float) → fits binary64 x ≡ true → lt plus_zero x ≡ true → finite x ≡ true → lt x smallest_normal ≡ true → LnBy x (to_bits binary64 (mul binary64 x scale)) 1077
ln_subnormal = above_zero (λ x. lt x smallest_normal ≡ true → LnBy x (to_bits binary64 (mul binary64 x scale)) 1077) (λ n k p h. ln_by_lem n k (to_bits binary64 (mul binary64 (fin false (suc n) k) scale)) 1077 (read_subnormal n k p h))

-- the number that is read, with its bias: x itself, or x times 2 ^ 54 where it is a subnormal
abbrev pub Scaled : Float → Float × ℕ → Type 0
Scaled v y = ((lt v smallest_normal ≡ true) × (y ≡ (mul binary64 v scale, 1077))) ⊎ ((lt v smallest_normal ≡ false) × (y ≡ (v, 1023)))

pub ln_scaled : (x : Float) → fits binary64 x ≡ true → lt plus_zero x ≡ true → finite x ≡ true → (p : ℕ) (y : Float × ℕ) → p ≡ to_bits binary64 y.0 → Scaled x y → LnBy x p y.1
ln_scaled v f h g p y e (inl w) = rw (e, w.1) (ln_subnormal v f h g w.0)
ln_scaled v f h g p y e (inr w) = rw (e, w.1) (ln_normal v f h g w.0)
