-- Whole numbers of 32 bits: above 4,294,967,295 every way of rounding gives that number; up to it, half of one more than the cut of x + x is the nearest,
-- and the cut of x, or one more where the cut is below x, is the ceiling. Assumes nothing.
use Rattle.std.proofs.Common.{◌≡◌, ℕ, ◌+◌, ◌*◌, ◌/◌, ◌^◌, ◌<◌, ◌≤◌, min, true, false, T, ◌↔◌, pos, sym, refl, ap, ◌∙◌, subst, inl, inr, le_trans, lt_of_lt_of_le, le_of_lt, mul-le-mul_right, div-lt_iff_lt-mul, lt_of_mul-lt-mul_right, le-div_iff_mul-le, arith, lit≤, pow_pos}
use native.Mathlib.Nat.{div-div-eq-div-mul, add-mul-div_right}
use lib.Ieee.{Float, inf, fin, binary64, fits, lt, add, of_bits, of_int, to_unsigned}
use lib.Ieee.Fits.{add-fits, of_int-fits}
use Rattle.numbers.specs.Clamps.{plus_zero}
use Rattle.numbers.specs.Units.{count, units}
use Rattle.numbers.specs.Whole.{largest, nearest_to, not_below, nearest_whole, ceiling}
use Rattle.numbers.proofs.Amounts.{passes, amount, Counts, counts, one_count, amount_of_count}
use Rattle.numbers.proofs.Order.{lt_amount, zero_amount, above_amount}
use Rattle.numbers.proofs.Ratios.{OfRatio, whole_by, nearest_of_ratio, not_below_of_ratio, level_with_cut, above_cut, nearest_is, ceiling_is, by_count}
use Rattle.numbers.proofs.Truncation.{may_be_cut, is_cut, double_counts, whole_counts}

-- 4,294,967,295 as a float
abbrev bound : Float
bound = of_bits binary64 0x41ef_ffff_ffe0_0000

bound_amount : T (amount binary64 bound)
unfolding amount fits of_bits
bound_amount = tt

bound_units : units bound ≡ largest * 2 ^ 1074
unfolding count of_bits
bound_units = refl

pub too_large : (g : ℕ → ℕ → ℕ) → OfRatio g → (x : Float) → fits binary64 x ≡ true → lt bound x ≡ true → whole_by g largest x ≡ largest
too_large g r x t l = elim (above_amount binary64 x bound bound_amount (passes t) (passes l)) [
  | inl p ↦
      let above : largest * 2 ^ 1074 < units x = rw bound_units at ((lt_amount binary64 bound x bound_amount p).0 (passes l)) in
      let cut_above : largest ≤ units x / 2 ^ 1074 = (le-div_iff_mul-le (pow_pos 1074)).1 (le_of_lt above) in
      by_count g largest r binary64 x (units x) (counts binary64 x p) ∙ capped (le_trans cut_above (r.no_less (units x) (2 ^ 1074) (pow_pos 1074)))
  | inr e ↦ rw e
]
  where
    capped : {k : ℕ} → largest ≤ k → min k largest ≡ largest
    capped h = omega arith

no_more : {a b : ℕ} → (a < b → ⊥) → b ≤ a
no_more h = omega (arith, h)

-- ---- above zero and up to 4,294,967,295
bound_below_infinity : lt bound (inf false) ≡ true
unfolding lt of_bits
bound_below_infinity = refl

pub record UpToBound (x : Float) : Type 0 where
  pub is_amount : T (amount binary64 x)
  pub at_most : units x ≤ largest * 2 ^ 1074

pub up_to_bound : (x : Float) → fits binary64 x ≡ true → lt bound x ≡ false → lt plus_zero x ≡ true → UpToBound x
up_to_bound x t l a = elim (above_amount binary64 x plus_zero (zero_amount binary64) (passes t) (passes a)) [
  | inl p ↦ record { is_amount = p; at_most = rw (← bound_units) (no_more (λ g. subst T l ((lt_amount binary64 bound x bound_amount p).1 g))) }
  | inr e ↦ absurd (subst T (sym bound_below_infinity ∙ (rw e at l)) tt)
]

-- ---- the nearest
halves : (a L : ℕ) → 0 < L → (a / L + 1) / 2 ≡ (a + L) / (L * 2)
halves a L l = ap (λ (k : ℕ). k / 2) (sym (add-mul-div_right a 1 l) ∙ ap (λ (k : ℕ). (a + k) / L) (once L)) ∙ div-div-eq-div-mul (a + L) L 2
  where
    once : (L : ℕ) → 1 * L ≡ L
    once L = omega arith

module _ {x : Float} (u : UpToBound x) where
  -- 8,589,934,591 is one more than twice the largest
  twice_below : (n L c : ℕ) → n ≤ largest * L → 8589934591 ≤ c → 0 < L → n * 2 < c * L
  twice_below n L c h g l = omega (arith, mul-le-mul_right L g)

  twice_counts : Counts binary64 (add binary64 x x) (units x * 2)
  twice_counts = double_counts binary64 x u.is_amount (twice_below (units x) (2 ^ 1074) (2 ^ 1024) u.at_most (lit≤ tt) (pow_pos 1074))

  twice_amount : T (amount binary64 (add binary64 x x))
  twice_amount = amount_of_count binary64 (add binary64 x x) (units x * 2) twice_counts (add-fits binary64 x x)

  twice_units : units (add binary64 x x) ≡ units x * 2
  twice_units = one_count binary64 (add binary64 x x) (units x * 2) twice_counts

  twice_small : units (add binary64 x x) < 2 ^ 64 * 2 ^ 1074
  twice_small = rw twice_units (twice_below (units x) (2 ^ 1074) (2 ^ 64) u.at_most (lit≤ tt) (pow_pos 1074))

  pub twice_may_be_cut : T (lt (fin true 1 (pos 0)) (add binary64 x x)) × T (lt (add binary64 x x) (fin false 1 (pos 64)))
  twice_may_be_cut = may_be_cut binary64 (add binary64 x x) twice_amount twice_small

  module _ {k : ℕ} (is : k ≡ to_unsigned 64 (add binary64 x x)) where
    cut_twice : k ≡ units x * 2 / 2 ^ 1074
    cut_twice = is ∙ is_cut binary64 (add binary64 x x) twice_amount twice_small ∙ ap (λ (n : ℕ). n / 2 ^ 1074) twice_units

    pub cut_twice_small : k < 8589934591
    cut_twice_small = rw cut_twice ((div-lt_iff_lt-mul (pow_pos 1074)).1 (twice_below (units x) (2 ^ 1074) 8589934591 u.at_most (lit≤ tt) (pow_pos 1074)))

    pub nearest_by_twice : (k + 1) / 2 ≡ nearest_whole x
    nearest_by_twice =
        let e : (k + 1) / 2 ≡ nearest_to (units x) (2 ^ 1074) = ap (λ (q : ℕ). (q + 1) / 2) cut_twice ∙ halves (units x * 2) (2 ^ 1074) (pow_pos 1074) in
        capped (nearest_to (units x) (2 ^ 1074)) e cut_twice_small
        ∙ sym (nearest_is x ∙ by_count nearest_to largest nearest_of_ratio binary64 x (units x) (counts binary64 x u.is_amount))
      where
        capped : (q : ℕ) → (k + 1) / 2 ≡ q → k < 8589934591 → (k + 1) / 2 ≡ min q largest
        capped q e h = omega arith

-- ---- the ceiling
module _ {x : Float} (u : UpToBound x) where
  small : units x < 2 ^ 64 * 2 ^ 1074
  small = go (units x) (2 ^ 1074) u.at_most (pow_pos 1074)
    where
      go : (n L : ℕ) → n ≤ largest * L → 0 < L → n < 2 ^ 64 * L
      go n L h l = omega arith

  pub it_may_be_cut : T (lt (fin true 1 (pos 0)) x) × T (lt x (fin false 1 (pos 64)))
  it_may_be_cut = may_be_cut binary64 x u.is_amount small

  module _ {k : ℕ} (is : k ≡ to_unsigned 64 x) where
    cut_it : k ≡ units x / 2 ^ 1074
    cut_it = is ∙ is_cut binary64 x u.is_amount small

    pub cut_small : k ≤ largest
    cut_small = last (rw cut_it ((div-lt_iff_lt-mul (pow_pos 1074)).1 (next (units x) (2 ^ 1074) u.at_most (pow_pos 1074))))
      where
        next : (n L : ℕ) → n ≤ largest * L → 0 < L → n < 4294967296 * L
        next n L h l = omega arith

        last : k < 4294967296 → k ≤ largest
        last h = omega arith

    below_is : T (lt (of_int binary64 (pos k)) x) ↔ (k * 2 ^ 1074 < units x)
    below_is =
        let c = whole_counts binary64 k (le_trans cut_small (lit≤ tt)) in
        rw (one_count binary64 (of_int binary64 (pos k)) (k * 2 ^ 1074) c) at
        (lt_amount binary64 (of_int binary64 (pos k)) x (amount_of_count binary64 (of_int binary64 (pos k)) (k * 2 ^ 1074) c (of_int-fits binary64 (pos k))) u.is_amount)

    by_units : ceiling x ≡ min (not_below (units x) (2 ^ 1074)) largest
    by_units = ceiling_is x ∙ by_count not_below largest not_below_of_ratio binary64 x (units x) (counts binary64 x u.is_amount)

    pub ceiling_above : lt (of_int binary64 (pos k)) x ≡ true → (k < largest) × (k + 1 ≡ ceiling x)
    ceiling_above h =
        let below : k < largest = lt_of_mul-lt-mul_right (2 ^ 1074) (lt_of_lt_of_le (below_is.0 (passes h)) u.at_most) in
        (below, sym (by_units ∙ capped below (above_cut (units x) (2 ^ 1074) k (pow_pos 1074) cut_it (below_is.0 (passes h)))))
      where
        capped : {q : ℕ} → k < largest → q ≡ k + 1 → min q largest ≡ k + 1
        capped l e = omega arith

    pub ceiling_level : lt (of_int binary64 (pos k)) x ≡ false → k ≡ ceiling x
    ceiling_level h = sym (by_units ∙ capped cut_small (level_with_cut (units x) (2 ^ 1074) k (pow_pos 1074) cut_it (no_more (λ g. subst T h (below_is.1 g)))))
      where
        capped : {q : ℕ} → k ≤ largest → q ≡ k → min q largest ≡ k
        capped l e = omega arith
