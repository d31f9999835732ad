-- The steps of the spline down from the last knot, and where there is no segment. Assumes nothing.
use mathlib.Core.Path.{◌≡◌, refl, sym, ap, ◌∙◌}
use mathlib.Core.List.{List}
use Prim.Native.Nat.{ℕ, suc, ◌+◌, ◌-◌, ◌<◌, ◌≤◌}
use native.Mathlib.Omega.{arith}
use lib.ListN.{length, get_or-eq_default}
use lib.Ieee.{Float, nan, inf, fin, binary64, neg, add, sub, mul, div}
use Rattle.numbers.specs.Clamps.{plus_zero}
use Rattle.curves.specs.Segments.{knot}
use Rattle.yield_curve.specs.Spline.{long, slope, mu, z, c, c_at, b, cubic}

module _ (times rates : List Float) where
  -- ---- down: c of a knot from that of the one after it
  c_of : (n k : ℕ) → n ≡ length times → suc k < n → c_at times rates k
      ≡ sub binary64 (z times rates k) (mul binary64 (mu times rates k) (c_at times rates (suc k)))
  unfolding c
  c_of n k is_n h =
      let e : length times - suc k ≡ suc (length times - suc (suc k)) = omega arith in
      let back : length times - suc (suc (length times - suc (suc k))) ≡ k = omega arith in
      ap (c times rates) e ∙ rw back

  pub c_last : (k : ℕ) → length times ≤ k + 1 → plus_zero ≡ c_at times rates k
  unfolding c
  c_last k h = let e : length times - suc k ≡ 0 = omega arith in rw e

  pub down : (k : ℕ) (y m next : Float) → suc k < length times → y ≡ z times rates k → m ≡ mu times rates k → next ≡ c_at times rates (suc k)
      → sub binary64 y (mul binary64 m next) ≡ c_at times rates k
  down k y m next h is_y is_m is_next = rw (is_y, is_m, is_next) (sym (c_of _ k refl h))

-- ---- a NaN that is read makes the whole a NaN
div_nan : (x : Float) → div binary64 x nan ≡ nan
unfolding div
div_nan nan = refl
div_nan (inf s) = refl
div_nan (fin s m e) = refl

add_nan : (x : Float) → add binary64 x nan ≡ nan
unfolding add
add_nan nan = refl
add_nan (inf s) = refl
add_nan (fin s m e) = refl

nan_sub : (x : Float) → sub binary64 nan x ≡ nan
unfolding sub add neg
nan_sub x = refl

nan_mul : (x : Float) → mul binary64 nan x ≡ nan
unfolding mul
nan_mul x = refl

nan_add : (x : Float) → add binary64 nan x ≡ nan
unfolding add
nan_add x = refl

pub no_segment : (times rates : List Float) (i : ℕ) (dx : Float) → length times ≤ i + 1 → nan ≡ cubic times rates i dx
unfolding cubic b slope long
no_segment times rates i dx h =
    let none : knot times (suc i) ≡ nan = get_or-eq_default times nan (omega arith) in
    sym (simp (none, nan_sub, div_nan, nan_mul, add_nan, nan_add))
