-- A number above zero as m * 2 ^ e with m in [1,2), read off its bit pattern: the digits' field under a fixed exponent is m, and the exponent's field less its bias is e.
-- A number whose pattern has no leading digit is scaled by a power of two first. Assumes nothing.
use mathlib.Core.Path.{◌≡◌, sym, ap, ◌∙◌, subst}
use mathlib.Core.Bool.{false, not}
use Prim.Native.Nat.{ℕ, suc, ◌+◌, ◌-◌, ◌*◌, ◌/◌, ◌%◌, ◌^◌, ◌≤◌, ◌<◌}
use native.Mathlib.Nat.{lt_of_lt_of_le, mul-div_cancel, mul-one, mul_assoc, mul-pos, le_of_mul-le-mul_right}
use native.Mathlib.Omega.{arith}
use lib.Arith.{digits_div, digits_mod}
use lib.IntN.{ℤ, sub_ℕ}
use lib.Dec.{T, lit<, lit≤}
use lib.Pow.{pow-add, pow_pos, shl_lt}
use lib.Ieee.{binary64, up, down, size, round, of_bits, nan_bits}
use lib.Ieee.Bits.{of_bits-fits}
use lib.Ieee.Digits.{size-le, size_reaches, back}
use lib.Ieee.Exact.{round_exact}
use lib.Ieee.Fits.{kept-lt, round-fits}
use lib.Ieee.Scale.{round_same}
use Rattle.numbers.proofs.Amounts.{Held}
use Rattle.elementary.specs.Ln.{leading, exponent}
use Rattle.numbers.proofs.Values.{pattern_at, same_value}
use Rattle.elementary.proofs.Patterns.{pattern_value, pattern_is_no_nan}
use Rattle.elementary.proofs.Sizes.{size_above, size_pos, sizes_agree, leads_agree, up_by, down_by, up_is, down_is, same_difference, sum_is_difference}

-- ---- n * 2 ^ k in units: its leading digits and its exponent are those of the count c
module _ (n c : ℕ) (k : ℤ) (N : 0 < n) (C : 0 < c) (is : n * up k * 2 ^ 1074 ≡ c * down k) where
  in_powers : n * 2 ^ (up_by k + 1074) ≡ c * 2 ^ down_by k
  in_powers = turn (up k) (2 ^ 1074) (down k) (2 ^ (up_by k + 1074)) (2 ^ down_by k) (pow-add 2 (up_by k) 1074 ∙ ap (λ (u : ℕ). u * 2 ^ 1074) (sym (up_is k))) (down_is k) is
    where
      turn : (u L d U D : ℕ) → U ≡ u * L → d ≡ D → n * u * L ≡ c * d → n * U ≡ c * D
      turn u L d U D p q h = omega (arith, ap (λ (z : ℕ). n * z) p, ap (λ (z : ℕ). c * z) q)

  pub leading_by_count : leading n ≡ round binary64 false c (2 ^ (size c - 1))
  unfolding leading
  leading_by_count = round_same binary64 false n (2 ^ (size n - 1)) c (2 ^ (size c - 1)) (pow_pos (size n - 1)) (pow_pos (size c - 1)) (leads_agree n c (up_by k + 1074) (down_by k) N C in_powers)

  pub exponent_by_count : exponent n k ≡ sub_ℕ (size c) 1075
  unfolding exponent
  exponent_by_count = sum_is_difference (size n - 1) k ∙ same_difference (size n - 1 + up_by k) (down_by k) (size c) 1075 (turn (size n) (up_by k) (size c) (down_by k) (size_pos n N) (sizes_agree n c (up_by k + 1074) (down_by k) N C in_powers))
    where
      turn : (s u z d : ℕ) → 0 < s → s + (u + 1074) ≡ z + d → s - 1 + u + 1075 ≡ z + d
      turn s u z d h e = omega arith

-- ---- a count of 53 digits or more, its pattern's fields and the 53 digits q that it keeps
module _ (c : ℕ) (held : Held binary64 c) (normal : 2 ^ 52 ≤ c) where
  z : ℕ
  z = size c - 53

  q : ℕ
  unfolding z
  q = c / 2 ^ z

  long : 52 < size c
  long = size_above c 52 normal

  size_is : size c ≡ 53 + z
  unfolding z
  size_is = whole (size c) long
    where
      whole : (s : ℕ) → 52 < s → s ≡ 53 + (s - 53)
      whole s h = omega arith

  kept : q * 2 ^ z ≡ c
  unfolding q z
  kept =
      let s : c ≡ held.digits * 2 ^ (held.shift - z) * 2 ^ z =
      held.is ∙ ap (λ (i : ℕ). held.digits * 2 ^ i) (sym (back held.shift z shift_more)) ∙ ap (λ (i : ℕ). held.digits * i) (pow-add 2 (held.shift - z) z) ∙ sym (mul_assoc held.digits (2 ^ (held.shift - z)) (2 ^ z)) in
      ap (λ (i : ℕ). i / 2 ^ z * 2 ^ z) s ∙ ap (λ (i : ℕ). i * 2 ^ z) (mul-div_cancel (held.digits * 2 ^ (held.shift - z)) (pow_pos z)) ∙ sym s
    where
      spare : (s h : ℕ) → s ≤ 53 + h → s - 53 ≤ h
      spare s h l = omega arith

      shift_more : z ≤ held.shift
      shift_more = spare (size c) held.shift (size-le c (53 + held.shift) (subst (λ (i : ℕ). i < 2 ^ (53 + held.shift)) (sym held.is) (shl_lt 53 held.shift held.small)))

  q_small : q < 2 ^ 53
  unfolding q z
  q_small = kept-lt 53 c

  q_large : 2 ^ 52 ≤ q
  q_large = le_of_mul-le-mul_right {k = 2 ^ z} (rw (← pow-add 2 52 z, kept) (size_reaches c (52 + z) (less (size c) z size_is))) (pow_pos z)
    where
      less : (s z : ℕ) → s ≡ 53 + z → 52 + z < s
      less s z e = omega arith

  digits_small : q - 2 ^ 52 < 2 ^ 52
  digits_small = go q q_small q_large
    where
      go : (q : ℕ) → q < 2 ^ 53 → 2 ^ 52 ≤ q → q - 2 ^ 52 < 2 ^ 52
      go q a b = omega arith

  pattern_is : pattern_at binary64 false c ≡ suc z * 2 ^ 52 + (q - 2 ^ 52)
  unfolding pattern_at q z
  pattern_is = go z q q_large
    where
      go : (z q : ℕ) → 2 ^ 52 ≤ q → 0 + z * 2 ^ 52 + q ≡ suc z * 2 ^ 52 + (q - 2 ^ 52)
      go z q h = omega arith

  field_is : pattern_at binary64 false c / 2 ^ 52 ≡ suc z
  field_is = rw pattern_is (digits_div (suc z) digits_small)

  digits_are : pattern_at binary64 false c % 2 ^ 52 ≡ q - 2 ^ 52
  digits_are = rw pattern_is (digits_mod (suc z) digits_small)

  pub field_small : pattern_at binary64 false c / 2 ^ 52 < 2047
  field_small = rw field_is (go (size c) z size_is (size-le c 2098 held.below))
    where
      go : (s z : ℕ) → s ≡ 53 + z → s ≤ 2098 → suc z < 2047
      go s z e h = omega arith

  -- the exponent's field, by the number of digits
  pub field_by_size : pattern_at binary64 false c / 2 ^ 52 + 52 ≡ size c
  field_by_size = rw field_is (go (size c) z size_is)
    where
      go : (s z : ℕ) → s ≡ 53 + z → suc z + 52 ≡ s
      go s z e = omega arith

  -- under the exponent's field of 1 the digits are the leading ones
  pub read_no_nan : T (not (nan_bits binary64 (1023 * 2 ^ 52 + pattern_at binary64 false c % 2 ^ 52)))
  read_no_nan = rw digits_are (pattern_is_no_nan binary64 1022 (q - 2 ^ 52) (lit< tt) digits_small)

  pub read_leading : of_bits binary64 (1023 * 2 ^ 52 + pattern_at binary64 false c % 2 ^ 52) ≡ round binary64 false c (2 ^ (size c - 1))
  read_leading =
      rw digits_are
      (same_value binary64 (of_bits binary64 (1023 * 2 ^ 52 + (q - 2 ^ 52))) (round binary64 false c (2 ^ (size c - 1))) false
      ((2 ^ 52 + (q - 2 ^ 52)) * 2 ^ 1022) (2 ^ 1074) c (2 ^ (size c - 1)) (pow_pos 1074) (pow_pos (size c - 1))
      (of_bits-fits binary64 (1023 * 2 ^ 52 + (q - 2 ^ 52))) (round-fits binary64 false c (2 ^ (size c - 1)))
      (pattern_value binary64 1022 (q - 2 ^ 52) (lit< tt) digits_small)
      (round_exact binary64 false c (2 ^ (size c - 1)) q 1022 (pow_pos (size c - 1)) q_small small exact)
      (ap (λ (i : ℕ). i * 2 ^ 1022 * 2 ^ (size c - 1)) (whole q q_large) ∙ sym exact))
    where
      whole : (q : ℕ) → 2 ^ 52 ≤ q → 2 ^ 52 + (q - 2 ^ 52) ≡ q
      whole q h = omega arith

      small : q * 2 ^ 1022 < 2 ^ (1074 + 1024)
      small = lt_of_lt_of_le (shl_lt 53 1022 q_small) (lit≤ tt)

      powers : 2 ^ z * 2 ^ 1074 ≡ 2 ^ 1022 * 2 ^ (size c - 1)
      powers = sym (pow-add 2 z 1074) ∙ ap (λ (i : ℕ). 2 ^ i) (go (size c) z size_is) ∙ pow-add 2 1022 (size c - 1)
        where
          go : (s z : ℕ) → s ≡ 53 + z → z + 1074 ≡ 1022 + (s - 1)
          go s z e = omega arith

      exact : c * 2 ^ 1074 ≡ q * 2 ^ 1022 * 2 ^ (size c - 1)
      exact = ap (λ (i : ℕ). i * 2 ^ 1074) (sym kept) ∙ mul_assoc q (2 ^ z) (2 ^ 1074) ∙ ap (λ (i : ℕ). q * i) powers ∙ sym (mul_assoc q (2 ^ 1022) (2 ^ (size c - 1)))

-- ---- n * 2 ^ k, scaled by 2 ^ t, by its pattern p
pub record ReadOff (n : ℕ) (k : ℤ) (p bias : ℕ) : Type 0 where
  pub no_nan : T (not (nan_bits binary64 (1023 * 2 ^ 52 + p % 2 ^ 52)))
  pub leads : of_bits binary64 (1023 * 2 ^ 52 + p % 2 ^ 52) ≡ leading n
  pub field : p / 2 ^ 52 < 2047
  pub is : sub_ℕ (p / 2 ^ 52) bias ≡ exponent n k

pub read_off : (n c C : ℕ) (k : ℤ) (t : ℕ) → 0 < n → 0 < c → n * up k * 2 ^ 1074 ≡ c * down k → c * 2 ^ t ≡ C → Held binary64 C → 2 ^ 52 ≤ C → ReadOff n k (pattern_at binary64 false C) (1023 + t)
read_off n c C k t N P is scaled held normal =
    let L : 0 < C = subst (λ (i : ℕ). 0 < i) scaled (mul-pos P (pow_pos t)) in
    let s : c * 2 ^ t ≡ C * 2 ^ 0 = scaled ∙ sym (mul-one C) in
    record {
      no_nan = read_no_nan C held normal;
      leads =
          read_leading C held normal
          ∙ sym (leading_by_count n c k N P is
          ∙ round_same binary64 false c (2 ^ (size c - 1)) C (2 ^ (size C - 1)) (pow_pos (size c - 1)) (pow_pos (size C - 1)) (leads_agree c C t 0 P L s));
      field = field_small C held normal;
      is =
          same_difference (pattern_at binary64 false C / 2 ^ 52) (1023 + t) (size c) 1075 (turn (pattern_at binary64 false C / 2 ^ 52) (size c) (size C) (field_by_size C held normal) (sizes_agree c C t 0 P L s))
          ∙ sym (exponent_by_count n c k N P is);
    }
  where
    turn : (f s z : ℕ) → f + 52 ≡ z → s + t ≡ z + 0 → f + 1075 ≡ s + (1023 + t)
    turn f s z a b = omega arith
