-- What a bit pattern with an exponent's field x and digits t stands for, and powers of two made so. Assumes nothing.
use mathlib.Core.Path.{◌≡◌, refl, sym, ap, ap₂, ◌∙◌, subst}
use mathlib.Core.Bool.{Bool, true, false, not, cond}
use Prim.Native.Nat.{ℕ, suc, ◌+◌, ◌-◌, ◌*◌, ◌/◌, ◌%◌, ◌^◌, ◌≤◌, ◌<◌}
use native.Mathlib.Nat.{mod-eq_of_lt, mul_comm, mul-one, one-mul, zero-lt-suc}
use native.Mathlib.Omega.{arith}
use lib.Arith.{digits_lt, digits_div, digits_mod, lt→nleb}
use lib.Dec.{T, leb, eqb, eqb→eq, lit<}
use lib.Pow.{pow-add, pow_pos, pow-lt}
use lib.Ieee.{Float, nan, inf, fin, Format, binary64, prec, low, hid, ones, top, odd, of_fields, of_bits, nan_bits, is_nan, round}
use lib.Ieee.Bits.{is_false, of_bits-fits, nan_bits_is}
use lib.Ieee.Exact.{HasValue, odd_sign, round_exact}
use lib.Ieee.Fits.{round-fits}
use Rattle.elementary.specs.Exp.{two_to}
use Rattle.numbers.proofs.Values.{same_value}

opened : (f : Format) (b : ℕ) → of_bits f b ≡ of_fields f (leb (top f) b) (b % top f / hid f) (b % hid f)
unfolding of_bits
opened f b = refl

no_nan : (z : Float) (a c : ℕ) → HasValue z false a c → T (not (is_nan z))
unfolding is_nan
no_nan nan a c v = absurd v
no_nan (inf s) a c v = absurd v
no_nan (fin s m e) a c v = tt

-- a field above 0 and below the one of the infinities, with digits t
module _ (f : Format) (x t : ℕ) (X : suc x < ones f) (H : t < hid f) where
  small : suc x * hid f + t < top f
  small = subst (λ (n : ℕ). suc x * hid f + t < n) (mul_comm (suc (ones f)) (hid f)) (digits_lt {m = suc (ones f)} (more X) H)
    where
      more : {a b : ℕ} → a < b → a < suc b
      more h = omega arith

  fields : of_bits f (suc x * hid f + t) ≡ of_fields f false (suc x) t
  fields =
      opened f (suc x * hid f + t)
      ∙ ap (λ (s : Bool). of_fields f s ((suc x * hid f + t) % top f / hid f) ((suc x * hid f + t) % hid f)) (is_false (leb (top f) (suc x * hid f + t)) (lt→nleb (top f) (suc x * hid f + t) small))
      ∙ ap₂ (λ (i j : ℕ). of_fields f false i j) (ap (λ (i : ℕ). i / hid f) (mod-eq_of_lt small) ∙ digits_div (suc x) H) (digits_mod (suc x) H)

  read : HasValue (of_fields f false (suc x) t) false ((hid f + t) * 2 ^ x) (2 ^ low f)
  unfolding of_fields
  read = go (eqb (suc x) (ones f)) (eqb→eq (suc x) (ones f))
    where
      no : {a b : ℕ} → a < b → a ≡ b → ⊥
      no h e = omega arith

      go : (b : Bool) → (T b → suc x ≡ ones f) → HasValue (cond b (cond (eqb t 0) (inf false) nan) (odd (prec f) false (hid f + t) x (low f))) false ((hid f + t) * 2 ^ x) (2 ^ low f)
      go true e = absurd (no X (e tt))
      go false e = odd_sign (prec f) false (hid f + t) x (low f)

  pub pattern_value : HasValue (of_bits f (suc x * hid f + t)) false ((hid f + t) * 2 ^ x) (2 ^ low f)
  pattern_value = subst (λ (z : Float). HasValue z false ((hid f + t) * 2 ^ x) (2 ^ low f)) (sym fields) read

  pub pattern_is_no_nan : T (not (nan_bits f (suc x * hid f + t)))
  pattern_is_no_nan = rw (nan_bits_is f (suc x * hid f + t)) (no_nan (of_bits f (suc x * hid f + t)) ((hid f + t) * 2 ^ x) (2 ^ low f) pattern_value)

-- ---- binary64: a field alone, shifted to its place
less : (x : ℕ) → 0 < x → x < 2047 → suc (x - 1) < 2047
less x h l = omega arith

module _ (x : ℕ) (X : 0 < x) (S : x < 2047) where
  field_shifted : x * 2 ^ 52 % 2 ^ 64 ≡ suc (x - 1) * 2 ^ 52 + 0
  field_shifted = mod-eq_of_lt (wide x S) ∙ whole x X
    where
      wide : (x : ℕ) → x < 2047 → x * 2 ^ 52 < 2 ^ 64
      wide x h = omega arith

      whole : (x : ℕ) → 0 < x → x * 2 ^ 52 ≡ suc (x - 1) * 2 ^ 52 + 0
      whole x h = omega arith

  field_value : HasValue (of_bits binary64 (x * 2 ^ 52 % 2 ^ 64)) false (2 ^ 52 * 2 ^ (x - 1)) (2 ^ 1074)
  field_value = rw field_shifted (pattern_value binary64 (x - 1) 0 (less x X S) (pow_pos 52))

  pub field_is_no_nan : T (not (nan_bits binary64 (x * 2 ^ 52 % 2 ^ 64)))
  field_is_no_nan = rw field_shifted (pattern_is_no_nan binary64 (x - 1) 0 (less x X S) (pow_pos 52))

-- ---- 2 to the power k and -k
pub two_to_up : (k : ℕ) → k ≤ 1023 → of_bits binary64 ((1023 + k) * 2 ^ 52 % 2 ^ 64) ≡ two_to false k
unfolding two_to
two_to_up k h =
    same_value binary64 (of_bits binary64 ((1023 + k) * 2 ^ 52 % 2 ^ 64)) (round binary64 false (2 ^ k) 1) false
    (2 ^ 52 * 2 ^ (1023 + k - 1)) (2 ^ 1074) (2 ^ k) 1 (pow_pos 1074) (zero-lt-suc 0) (of_bits-fits binary64 ((1023 + k) * 2 ^ 52 % 2 ^ 64)) (round-fits binary64 false (2 ^ k) 1)
    (field_value (1023 + k) (omega arith) (omega arith))
    (round_exact binary64 false (2 ^ k) 1 1 (k + 1074) (zero-lt-suc 0) (lit< tt) (rw one-mul (pow-lt (room k h))) (exact (2 ^ k) (2 ^ 1074) (2 ^ (k + 1074)) (pow-add 2 k 1074)))
    (mul-one (2 ^ 52 * 2 ^ (1023 + k - 1)) ∙ sym (pow-add 2 52 (1023 + k - 1)) ∙ ap (λ (i : ℕ). 2 ^ i) (sum k) ∙ pow-add 2 k 1074)
  where
    room : (k : ℕ) → k ≤ 1023 → k + 1074 < 1074 + 1024
    room k h = omega arith

    exact : (a b c : ℕ) → c ≡ a * b → a * b ≡ 1 * c * 1
    exact a b c e = omega arith

    sum : (k : ℕ) → 52 + (1023 + k - 1) ≡ k + 1074
    sum k = omega arith

pub two_to_down : (k : ℕ) → k ≤ 1022 → of_bits binary64 ((1023 - k) * 2 ^ 52 % 2 ^ 64) ≡ two_to true k
unfolding two_to
two_to_down k h =
    same_value binary64 (of_bits binary64 ((1023 - k) * 2 ^ 52 % 2 ^ 64)) (round binary64 false 1 (2 ^ k)) false
    (2 ^ 52 * 2 ^ (1023 - k - 1)) (2 ^ 1074) 1 (2 ^ k) (pow_pos 1074) (pow_pos k) (of_bits-fits binary64 ((1023 - k) * 2 ^ 52 % 2 ^ 64)) (round-fits binary64 false 1 (2 ^ k))
    (field_value (1023 - k) (omega arith) (omega arith))
    (round_exact binary64 false 1 (2 ^ k) 1 (1074 - k) (pow_pos k) (lit< tt) (rw one-mul (pow-lt (room k))) (exact (2 ^ 1074) (2 ^ (1074 - k)) (2 ^ k) (ap (λ (i : ℕ). 2 ^ i) (back k h) ∙ pow-add 2 (1074 - k) k)))
    (ap (λ (i : ℕ). i * 2 ^ k) (sym (pow-add 2 52 (1023 - k - 1))) ∙ sym (pow-add 2 (52 + (1023 - k - 1)) k) ∙ ap (λ (i : ℕ). 2 ^ i) (sum k h) ∙ sym (one-mul (2 ^ 1074)))
  where
    room : (k : ℕ) → 1074 - k < 1074 + 1024
    room k = omega arith

    back : (k : ℕ) → k ≤ 1022 → 1074 ≡ 1074 - k + k
    back k h = omega arith

    exact : (a b c : ℕ) → a ≡ b * c → 1 * a ≡ 1 * b * c
    exact a b c e = omega arith

    sum : (k : ℕ) → k ≤ 1022 → 52 + (1023 - k - 1) + k ≡ 1074
    sum k h = omega arith
