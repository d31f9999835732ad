-- The nearest whole number to a size a up to 1,024: 2 ^ 52 added and taken off leaves a whole number n at most a half away, and n or n + 1 is the nearest, halves up,
-- by whether a is n + 1/2 or more. Assumes nothing.
use mathlib.Core.Path.{◌≡◌, refl, sym, ap, ◌∙◌, subst}
use mathlib.Core.Bool.{true, false, true≢false}
use mathlib.Core.Logic.{◌↔◌}
use Prim.Native.Nat.{ℕ, suc, ◌+◌, ◌-◌, ◌*◌, ◌/◌, ◌^◌, ◌≤◌, ◌<◌, min}
use native.Mathlib.Nat.{le_antisymm, le_trans, lt_of_lt_of_le, mul-one, mul-pos, mul-le-mul_right, mul-div_cancel, zero-lt-suc, le-div_iff_mul-le, div-lt_iff_lt-mul}
use native.Mathlib.Omega.{arith}
use lib.IntN.{ℤ, pos}
use lib.Dec.{T, lit≤}
use lib.Pow.{pow-add, pow_pos, shl_lt}
use lib.Ieee.{Float, nan, inf, fin, binary64, up, down, fits, size, round, add, sub, le, of_int, of_bits}
use lib.Ieee.Digits.{size-le}
use lib.Ieee.Exact.{HasValue, round_exact}
use lib.Ieee.Fits.{down_pos, add-fits, of_int-fits, round-fits}
use lib.Ieee.Nearest.{closest}
use lib.Ieee.Scale.{grid, round_same, round_val}
use Rattle.numbers.specs.Literals.{one, half}
use Rattle.numbers.specs.Units.{units}
use Rattle.numbers.specs.Whole.{nearest_to, nearest_whole, largest}
use Rattle.numbers.proofs.Amounts.{passes, amount, counts}
use Rattle.numbers.proofs.Order.{le_amount}
use Rattle.numbers.proofs.Ratios.{nearest_of_ratio, nearest_is, by_count}
use Rattle.numbers.proofs.Snap.{snap, closest_within_half, WithinHalf, grid_is_snap}
use Rattle.numbers.proofs.Values.{same_value, count_of_value}
use Rattle.elementary.proofs.Sizes.{size_above, same_difference, plain_difference}
use Rattle.elementary.proofs.Wholes.{whole_value, whole_difference, whole_sum}

-- 2 ^ 52
abbrev pub lift : Float
lift = of_bits binary64 0x4330_0000_0000_0000

lift_is : lift ≡ of_int binary64 (pos (2 ^ 52))
unfolding of_bits of_int round
lift_is = refl

one_is : one ≡ of_int binary64 (pos 1)
unfolding of_bits of_int round
one_is = refl

-- ---- whole numbers: T units of 1 / U, and N more by 2 ^ 52
module _ (T₀ U : ℕ) (pos_U : 0 < U) (small : T₀ ≤ 1024 * U) where
  abbrev N : ℕ
  N = T₀ + 2 ^ 52 * U

  -- C over 2 ^ 52 is at most a half away from T / U
  module _ (C : ℕ) (near : WithinHalf U (C * U) N) where
    lifted : 2 ^ 52 ≤ C
    lifted = go (2 ^ 52) near.1
      where
        go : (P : ℕ) → (T₀ + P * U) * 2 ≤ C * U * 2 + U → P ≤ C
        go P h = up (λ (g : C < P). no (mul-le-mul_right U g))
          where
            no : suc C * U ≤ P * U → ⊥
            no g = omega arith

            up : (C < P → ⊥) → P ≤ C
            up g = omega (arith, g)

    not_too_high : C ≤ 2 ^ 52 + 1024
    not_too_high = go (2 ^ 52) near.0
      where
        go : (P : ℕ) → C * U * 2 ≤ (T₀ + P * U) * 2 + U → C ≤ P + 1024
        go P h = up (λ (g : P + 1024 < C). no (mul-le-mul_right U g))
          where
            no : suc (P + 1024) * U ≤ C * U → ⊥
            no g = omega arith

            up : (P + 1024 < C → ⊥) → C ≤ P + 1024
            up g = omega (arith, g)

    near_by : WithinHalf U ((C - 2 ^ 52) * U) T₀
    near_by = go (2 ^ 52) (C - 2 ^ 52) (back (2 ^ 52) lifted) near
      where
        back : (P : ℕ) → P ≤ C → C ≡ P + (C - P)
        back P h = omega arith

        go : (P c : ℕ) → C ≡ P + c → WithinHalf U (C * U) (T₀ + P * U) → WithinHalf U (c * U) T₀
        go P c e w = omega (arith, ap (λ (z : ℕ). z * U) e)

-- c or c + 1 is the nearest to T / U, halves up
quotient_is : (x y q : ℕ) → 0 < y → q * y ≤ x → x < suc q * y → x / y ≡ q
quotient_is x y q Y a b = le_antisymm (last ((div-lt_iff_lt-mul Y).1 b)) ((le-div_iff_mul-le Y).1 a)
  where
    last : {k : ℕ} → k < suc q → k ≤ q
    last h = omega arith

module _ (T₀ U c : ℕ) (pos_U : 0 < U) (near : WithinHalf U (c * U) T₀) where
  half_or_more : (c * 2 + 1) * U ≤ T₀ * 2 → nearest_to T₀ U ≡ c + 1
  half_or_more h = quotient_is (T₀ * 2 + U) (U * 2) (c + 1) (mul-pos pos_U (zero-lt-suc 1)) (under h) (over near.0 near.1)
    where
      under : (c * 2 + 1) * U ≤ T₀ * 2 → (c + 1) * (U * 2) ≤ T₀ * 2 + U
      under h = omega arith

      over : c * U * 2 ≤ T₀ * 2 + U → T₀ * 2 ≤ c * U * 2 + U → T₀ * 2 + U < suc (c + 1) * (U * 2)
      over a b = omega arith

  less_than_half : T₀ * 2 < (c * 2 + 1) * U → nearest_to T₀ U ≡ c
  less_than_half h = quotient_is (T₀ * 2 + U) (U * 2) c (mul-pos pos_U (zero-lt-suc 1)) (under near.0) (over h)
    where
      under : c * U * 2 ≤ T₀ * 2 + U → c * (U * 2) ≤ T₀ * 2 + U
      under a = omega arith

      over : T₀ * 2 < (c * 2 + 1) * U → T₀ * 2 + U < suc c * (U * 2)
      over h = omega arith

-- ---- a whole number and a half
half_more : (w : Float) (c : ℕ) → HasValue w false c 1 → c ≤ 1024 → HasValue (add binary64 w half) false (c * 2 + 1) 2
unfolding add of_bits
half_more nan c v h = absurd v
half_more (inf s) c v h = absurd v
half_more (fin true m e) c v h = absurd (true≢false v.0)
half_more (fin false m e) c v h =
    rw (round_same binary64 false (m * up e * 2 + 1 * 1 * down e) (down e * 2) (c * 2 + 1) 2 (mul-pos (down_pos e) (zero-lt-suc 1)) (zero-lt-suc 1) (turn (m * up e) c (down e) v.1))
    (round_exact binary64 false (c * 2 + 1) 2 (c * 2 + 1) 1073 (zero-lt-suc 1) (lt_of_lt_of_le (few h) (lit≤ tt)) (lt_of_lt_of_le (shl_lt 12 1073 (few h)) (lit≤ tt)) (exact (c * 2 + 1) (2 ^ 1073)))
  where
    turn : (M c d : ℕ) → M * 1 ≡ c * d → (M * 2 + 1 * 1 * d) * 2 ≡ (c * 2 + 1) * (d * 2)
    turn M c d h = omega arith

    few : c ≤ 1024 → c * 2 + 1 < 2 ^ 12
    few h = omega arith

    exact : (k P : ℕ) → k * (P * 2) ≡ k * P * 2
    exact k P = omega arith

is_amount : (x : Float) (n d : ℕ) → T (fits binary64 x) → HasValue x false n d → T (amount binary64 x)
unfolding amount
is_amount nan n d f v = absurd v
is_amount (inf s) n d f v = absurd v
is_amount (fin true m e) n d f v = absurd (true≢false v.0)
is_amount (fin false m e) n d f v = f

-- ---- a of so many units
module _ (m : ℕ) (e : ℤ) (p : T (amount binary64 (fin false m e))) (small : units (fin false m e) ≤ 1024 * 2 ^ 1074) where
  abbrev a : Float
  a = fin false m e

  abbrev t : ℕ
  t = units a

  abbrev n : ℕ
  n = t + 2 ^ 52 * 2 ^ 1074

  -- the sum is rounded to a whole number
  unit_size : size n - 53 ≡ 1074
  unit_size = go (size n) (size_above n (52 + 1074) (rw (pow-add 2 52 1074) (under t (2 ^ 52 * 2 ^ 1074)))) (size-le n (53 + 1074) (rw (pow-add 2 53 1074) (over (2 ^ 52) (2 ^ 53) (2 ^ 1074) small (lit≤ tt) (pow_pos 1074))))
    where
      under : (x y : ℕ) → y ≤ x + y
      under x y = omega arith

      over : (P Q U : ℕ) → t ≤ 1024 * U → 1025 + P ≤ Q → 0 < U → t + P * U < Q * U
      over P Q U h g l = omega (arith, mul-le-mul_right U g)

      go : (s : ℕ) → 52 + 1074 < s → s ≤ 53 + 1074 → s - 53 ≡ 1074
      go s a b = omega arith

  C : ℕ
  C = closest n (2 ^ 1074)

  C_near : WithinHalf (2 ^ 1074) (C * 2 ^ 1074) n
  unfolding C
  C_near = closest_within_half n (2 ^ 1074) (pow_pos 1074)

  sum_is : add binary64 a lift ≡ round binary64 false n (2 ^ 1074)
  unfolding add of_bits
  sum_is = round_same binary64 false (m * up e * 1 + 1 * 2 ^ 52 * down e) (down e * 1) n (2 ^ 1074) (mul-pos (down_pos e) (zero-lt-suc 0)) (pow_pos 1074) (turn (m * up e) (2 ^ 52) (down e) t (2 ^ 1074) (counts binary64 a p).1)
    where
      turn : (M P d t U : ℕ) → M * U ≡ t * d → (M * 1 + 1 * P * d) * U ≡ (t + P * U) * (d * 1)
      turn M P d t U h = omega arith

  grid_is : grid binary64 n (2 ^ 1074) ≡ C * 2 ^ 1074
  unfolding C snap
  grid_is = grid_is_snap binary64 n ∙ ap (λ (k : ℕ). closest n (2 ^ k) * 2 ^ k) unit_size

  C_small : C ≤ 2 ^ 53
  C_small = le_trans (not_too_high t (2 ^ 1074) (pow_pos 1074) small C C_near) (lit≤ tt)

  lifted_is : add binary64 a lift ≡ of_int binary64 (pos C)
  lifted_is =
      sum_is
      ∙ same_value binary64 (round binary64 false n (2 ^ 1074)) (of_int binary64 (pos C)) false (C * 2 ^ 1074) (2 ^ 1074) C 1 (pow_pos 1074) (zero-lt-suc 0)
      (round-fits binary64 false n (2 ^ 1074)) (of_int-fits binary64 (pos C))
      (subst (λ (g : ℕ). HasValue (round binary64 false n (2 ^ 1074)) false g (2 ^ 1074)) grid_is (round_val binary64 n (2 ^ 1074) (rw grid_is (below C (2 ^ 1074) C_small))))
      (whole_value binary64 C C_small) (mul-one (C * 2 ^ 1074))
    where
      below : (C U : ℕ) → C ≤ 2 ^ 53 → C * 2 ^ 1074 < 2 ^ 2098
      below C U h = lt_of_lt_of_le (shl_lt 54 1074 (more h)) (lit≤ tt)
        where
          more : C ≤ 2 ^ 53 → C < 2 ^ 54
          more h = omega arith

  c : ℕ
  c = C - 2 ^ 52

  c_near : WithinHalf (2 ^ 1074) (c * 2 ^ 1074) t
  unfolding c
  c_near = near_by t (2 ^ 1074) (pow_pos 1074) small C C_near

  c_small : c ≤ 1024
  unfolding c
  c_small = go C (not_too_high t (2 ^ 1074) (pow_pos 1074) small C C_near)
    where
      go : (C : ℕ) → C ≤ 2 ^ 52 + 1024 → C - 2 ^ 52 ≤ 1024
      go C h = omega arith

  -- 2 ^ 52 added and taken off
  left_over : sub binary64 (add binary64 a lift) lift ≡ of_int binary64 (pos c)
  unfolding c
  left_over =
      rw (lifted_is, lift_is)
      (whole_difference binary64 C (2 ^ 52) C_small (lit≤ tt)
      ∙ ap (of_int binary64) (same_difference C (2 ^ 52) (C - 2 ^ 52) 0 (back C (lifted t (2 ^ 1074) (pow_pos 1074) small C C_near)) ∙ plain_difference (C - 2 ^ 52)))
    where
      back : (C : ℕ) → 2 ^ 52 ≤ C → C + 0 ≡ C - 2 ^ 52 + 2 ^ 52
      back C h = omega arith

  -- ---- c + 1/2 is exact, and a is compared with it exactly
  halfway : Float
  halfway = add binary64 (of_int binary64 (pos c)) half

  halfway_value : HasValue halfway false (c * 2 + 1) 2
  unfolding halfway
  halfway_value = half_more (of_int binary64 (pos c)) c (whole_value binary64 c (le_trans c_small (lit≤ tt))) c_small

  halfway_amount : T (amount binary64 halfway)
  unfolding halfway
  halfway_amount = is_amount (add binary64 (of_int binary64 (pos c)) half) (c * 2 + 1) 2 (add-fits binary64 (of_int binary64 (pos c)) half) halfway_value

  compared : T (le halfway a) ↔ ((c * 2 + 1) * 2 ^ 1074 ≤ t * 2)
  compared =
      let l = le_amount binary64 halfway a halfway_amount p in
      (λ u. to (rw halfway_units at (l.0 u)), λ g. l.1 (rw halfway_units (from g)))
    where
      halfway_units : units halfway ≡ (c * 2 + 1) * 2 ^ 1073
      halfway_units = count_of_value binary64 halfway false (c * 2 + 1) 2 (zero-lt-suc 1) halfway_value ∙ twice (c * 2 + 1)
        where
          twice : (k : ℕ) → k * 2 ^ 1074 / 2 ≡ k * 2 ^ 1073
          twice k = ap (λ (z : ℕ). z / 2) (turn k (2 ^ 1073)) ∙ mul-div_cancel (k * 2 ^ 1073) (zero-lt-suc 1)
            where
              turn : (k P : ℕ) → k * (P * 2) ≡ k * P * 2
              turn k P = omega arith

      to : (c * 2 + 1) * 2 ^ 1073 ≤ t → (c * 2 + 1) * 2 ^ 1074 ≤ t * 2
      to h = go (c * 2 + 1) (2 ^ 1073) h
        where
          go : (k P : ℕ) → k * P ≤ t → k * (P * 2) ≤ t * 2
          go k P h = omega arith

      from : (c * 2 + 1) * 2 ^ 1074 ≤ t * 2 → (c * 2 + 1) * 2 ^ 1073 ≤ t
      from h = go (c * 2 + 1) (2 ^ 1073) h
        where
          go : (k P : ℕ) → k * (P * 2) ≤ t * 2 → k * P ≤ t
          go k P h = omega arith

  -- ---- the nearest, in the program's two cases
  by_units : nearest_whole a ≡ min (nearest_to t (2 ^ 1074)) largest
  by_units = nearest_is a ∙ by_count nearest_to largest nearest_of_ratio binary64 a t (counts binary64 a p)

  capped : (q : ℕ) → q ≤ 1025 → min q largest ≡ q
  capped q h = omega arith

  abbrev pub whole : Float
  whole = sub binary64 (add binary64 a lift) lift

  pub goes_up : le (add binary64 whole half) a ≡ true → add binary64 whole one ≡ of_int binary64 (pos (nearest_whole a))
  unfolding halfway
  goes_up h =
      rw (left_over, one_is)
      (whole_sum binary64 c 1 (le_trans c_small (lit≤ tt)) (lit≤ tt)
      ∙ ap (λ (k : ℕ). of_int binary64 (pos k)) (sym (by_units ∙ ap (λ (k : ℕ). min k largest) (half_or_more t (2 ^ 1074) c (pow_pos 1074) c_near (compared.0 (passes (rw left_over at h)))) ∙ capped (c + 1) (room c_small))))
    where
      room : c ≤ 1024 → c + 1 ≤ 1025
      room h = omega arith

  pub stays : le (add binary64 whole half) a ≡ false → whole ≡ of_int binary64 (pos (nearest_whole a))
  unfolding halfway
  stays h = left_over ∙ ap (λ (k : ℕ). of_int binary64 (pos k)) (sym (by_units ∙ ap (λ (k : ℕ). min k largest) (less_than_half t (2 ^ 1074) c (pow_pos 1074) c_near (less (λ g. subst T (rw left_over at h) (compared.1 g)))) ∙ capped c (room c_small)))
    where
      less : {x y : ℕ} → (x ≤ y → ⊥) → y < x
      less g = omega (arith, g)

      room : c ≤ 1024 → c ≤ 1025
      room h = omega arith
