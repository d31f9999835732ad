-- Whole numbers of a ratio: cut, to the nearest with halves up, and the least that is not below. Each depends on the ratio alone, so on the count of a value,
-- and each gives 0 where the value is not above zero. Assumes nothing.
use Rattle.std.proofs.Common.{◌≡◌, ℕ, suc, ◌+◌, ◌-◌, ◌*◌, ◌/◌, ◌^◌, ◌<◌, ◌≤◌, min, true, false, cond, T, ◌↔◌, sym, refl, ap, subst, le_trans, le_refl, mul-le-mul_right, div-lt_iff_lt-mul, le_antisymm, lt_of_not-le, le-div_iff_mul-le, not-le_of_lt, div-mul-le_self, le_of_mul-le-mul_right, arith, pow_pos, ltb-false}
use native.Mathlib.Nat.{zero-div, lt-div-mul-add}
use lib.Ieee.{Float, nan, inf, fin, Format, low, up, down, lt, of_bits, to_unsigned}
use lib.Ieee.Fits.{down_pos}
use lib.Ieee.Nearest.{div_same}
use Rattle.numbers.specs.Clamps.{plus_zero}
use Rattle.numbers.specs.Whole.{nearest_to, not_below, nearest_whole, ceiling, largest}
use Rattle.numbers.proofs.Amounts.{Counts, negative_counts_nothing}

-- g a c goes by the ratio a / c, gives 0 at 0, and never less than the whole part
pub record OfRatio (g : ℕ → ℕ → ℕ) : Type 0 where
  pub same : (a b c d : ℕ) → 0 < b → 0 < d → a * d ≡ c * b → g a b ≡ g c d
  pub at_nothing : (c : ℕ) → 0 < c → g 0 c ≡ 0
  pub no_less : (a c : ℕ) → 0 < c → a / c ≤ g a c

abbrev pub cut : ℕ → ℕ → ℕ
cut a c = a / c

pub cut_of_ratio : OfRatio cut
cut_of_ratio = record { same = div_same; at_nothing = λ c h. zero-div c; no_less = λ a c h. le_refl (a / c) }

none_whole : (a c : ℕ) → 0 < c → a < c → a / c ≡ 0
none_whole a c C h = below_one ((div-lt_iff_lt-mul C).1 (once a c h))
  where
    once : (a c : ℕ) → a < c → a < 1 * c
    once a c h = omega arith

    below_one : {q : ℕ} → q < 1 → q ≡ 0
    below_one h = omega arith

pub nearest_of_ratio : OfRatio nearest_to
nearest_of_ratio =
    record {
      same = λ a b c d B D e. div_same (a * 2 + b) (b * 2) (c * 2 + d) (d * 2) (twice_pos B) (twice_pos D) (turn a b c d e);
      at_nothing = λ c C. none_whole (0 * 2 + c) (c * 2) (twice_pos C) (half c C);
      no_less = λ a c C. (le-div_iff_mul-le (twice_pos C)).1 (halved (a / c) a c (div-mul-le_self a c));
    }
  where
    twice_pos : {a : ℕ} → 0 < a → 0 < a * 2
    twice_pos h = omega arith

    turn : (a b c d : ℕ) → a * d ≡ c * b → (a * 2 + b) * (d * 2) ≡ (c * 2 + d) * (b * 2)
    turn a b c d e = omega arith

    half : (c : ℕ) → 0 < c → 0 * 2 + c < c * 2
    half c h = omega arith

    halved : (q a c : ℕ) → q * c ≤ a → q * (c * 2) ≤ a * 2 + c
    halved q a c h = omega arith

-- k is not below a / c exactly where a is at most k * c
pub not_below_is : (a c k : ℕ) → 0 < c → (not_below a c ≤ k) ↔ (a ≤ k * c)
not_below_is a c k C = (λ h. down_one ((div-lt_iff_lt-mul C).0 (next h)), λ h. last ((div-lt_iff_lt-mul C).1 (up_one h)))
  where
    next : {q : ℕ} → q ≤ k → q < suc k
    next h = omega arith

    last : {q : ℕ} → q < suc k → q ≤ k
    last h = omega arith

    down_one : a + (c - 1) < suc k * c → a ≤ k * c
    down_one h = omega arith

    up_one : a ≤ k * c → a + (c - 1) < suc k * c
    up_one h = omega arith

pub not_below_of_ratio : OfRatio not_below
not_below_of_ratio =
    record {
      same = λ a b c d B D e. le_antisymm (at_most a b c d B D e) (at_most c d a b D B (sym e));
      at_nothing = λ c C. none_whole (0 + (c - 1)) c C (one_less c C);
      no_less = λ a c C. le_of_mul-le-mul_right (le_trans (div-mul-le_self a c) ((not_below_is a c (not_below a c) C).0 (le_refl (not_below a c)))) C;
    }
  where
    one_less : (c : ℕ) → 0 < c → 0 + (c - 1) < c
    one_less c h = omega arith

    at_most : (a b c d : ℕ) → 0 < b → 0 < d → a * d ≡ c * b → not_below a b ≤ not_below c d
    at_most a b c d B D e = (not_below_is a b (not_below c d) B).1 (go (not_below c d) ((not_below_is c d (not_below c d) D).0 (le_refl (not_below c d))))
      where
        go : (k : ℕ) → c ≤ k * d → a ≤ k * b
        go k h = le_of_mul-le-mul_right {k = d} (omega (arith, mul-le-mul_right b h)) D

-- the least that is not below a / c, by the whole part q of it
module _ (a c q : ℕ) (C : 0 < c) (is : q ≡ a / c) where
  pub level_with_cut : a ≤ q * c → not_below a c ≡ q
  level_with_cut h = le_antisymm ((not_below_is a c q C).1 h) (rw is (not_below_of_ratio.no_less a c C))

  pub above_cut : q * c < a → not_below a c ≡ q + 1
  above_cut h = next ((not_below_is a c (q + 1) C).1 (last (rw is (lt-div-mul-add C)))) (lt_of_not-le (λ g. not-le_of_lt h ((not_below_is a c q C).0 g)))
    where
      next : {k : ℕ} → k ≤ q + 1 → q < k → k ≡ q + 1
      next g l = omega arith

      last : a < q * c + c → a ≤ (q + 1) * c
      last g = omega arith

-- ---- a value's whole number by g, at most `top`
abbrev pub whole_by : (ℕ → ℕ → ℕ) → ℕ → Float → ℕ
whole_by g top nan = 0
whole_by g top (inf s) = cond s 0 top
whole_by g top (fin s m e) = cond s 0 (min (g (m * up e) (down e)) top)

pub cut_is : (w : ℕ) (x : Float) → to_unsigned w x ≡ whole_by cut (2 ^ w - 1) x
unfolding to_unsigned
cut_is w nan = refl
cut_is w (inf s) = refl
cut_is w (fin s m e) = refl

pub nearest_is : (x : Float) → nearest_whole x ≡ whole_by nearest_to largest x
unfolding nearest_whole
nearest_is nan = refl
nearest_is (inf s) = refl
nearest_is (fin s m e) = refl

pub ceiling_is : (x : Float) → ceiling x ≡ whole_by not_below largest x
unfolding ceiling
ceiling_is nan = refl
ceiling_is (inf s) = refl
ceiling_is (fin s m e) = refl

module _ (g : ℕ → ℕ → ℕ) (top : ℕ) (r : OfRatio g) where
  none_at_all : (a c : ℕ) → 0 < c → a ≡ 0 → min (g a c) top ≡ 0
  none_at_all a c C z = rw z (rw (r.at_nothing c C) (omega arith))

  pub not_above_zero : (x : Float) → lt plus_zero x ≡ false → whole_by g top x ≡ 0
  unfolding lt of_bits
  not_above_zero nan h = refl
  not_above_zero (inf true) h = refl
  not_above_zero (inf false) h = absurd (subst T h tt)
  not_above_zero (fin true m e) h = refl
  not_above_zero (fin false m e) h = none_at_all (m * up e) (down e) (down_pos e) (none (m * up e) (down e) (ltb-false (0 * 1 * down e) (m * up e * 1) h))
    where
      none : (a d : ℕ) → a * 1 ≤ 0 * 1 * d → a ≡ 0
      none a d h = omega arith

  pub by_count : (f : Format) (x : Float) (n : ℕ) → Counts f x n → whole_by g top x ≡ min (g n (2 ^ low f)) top
  by_count f nan n c = absurd c
  by_count f (inf s) n c = absurd c
  by_count f (fin false m e) n c = ap (λ (k : ℕ). min k top) (r.same (m * up e) (down e) n (2 ^ low f) (down_pos e) (pow_pos (low f)) c.1)
  by_count f (fin true m e) n c = sym (none_at_all n (2 ^ low f) (pow_pos (low f)) (negative_counts_nothing f true m e n c tt))
