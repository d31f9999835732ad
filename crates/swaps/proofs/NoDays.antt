-- The fraction of a period is 0 exactly when it counts no day: a number of days below 2 ^ 53, over the days of a year, is above 0 from one day on, and +0 at none. Assumes nothing.
use mathlib.Core.Path.{◌≡◌, refl, sym, ap, ◌∙◌}
use mathlib.Core.Logic.{◌↔◌}
use mathlib.Core.Bool.{Bool, true, false, ◌&&◌}
use Prim.Native.Nat.{ℕ, zero, suc, ◌*◌, ◌^◌, ◌≤◌, ◌<◌}
use native.Mathlib.Nat.{mul_comm, mul-one, one-mul, mul-pos, mul-le-mul, mul-le-mul_right, zero-mul, le_refl, le_of_lt, zero-lt-suc}
use native.Mathlib.Omega.{arith}
use lib.Dec.{T, ltb, eqb, ltb→lt}
use lib.IntN.{ℤ, pos}
use lib.Ieee.{Float, nan, inf, fin, Format, binary64, up, down, round, div, eq, le, of_int, of_bits}
use lib.Ieee.Fits.{up_pos, down_pos}
use lib.Ieee.Exact.{HasValue}
use lib.Ieee.Order.{round_mono}
use lib.Ieee.Positive.{num, den, den_pos, positive, positive_of_value, value→cross, above, above_of_le}
use borrow.Author.Tests.{ne_eqb}
use Rattle.numbers.specs.Clamps.{plus_zero}
use Rattle.dates.proofs.Tests.{clash}
use Rattle.elementary.proofs.Wholes.{whole_value}
use Rattle.swaps.specs.declared.day_counts.DayCount.{DayCount}
use Rattle.swaps.specs.declared.day_counts.DayCount.TheVariants.{Actual360, Actual365, Thirty360}
use Rattle.swaps.specs.DayCounts.{year_of, day_fraction}

-- ---- a quotient of two values above 0
div_is : (f : Format) (x y : Float) → T (positive x) → T (positive y) → div f x y ≡ round f false (num x * den y) (num y * den x)
unfolding div
div_is f nan y p q = absurd p
div_is f (inf s) y p q = absurd p
div_is f (fin true m e) y p q = absurd p
div_is f (fin false m e) nan p q = absurd q
div_is f (fin false m e) (inf t) p q = absurd q
div_is f (fin false m e) (fin true n d) p q = absurd q
div_is f (fin false m e) (fin false n d) p q = rw (ne_eqb n 0 (not_0 n (ltb→lt 0 n q)))
  where
    not_0 : (k : ℕ) → 0 < k → k ≡ 0 → ⊥
    not_0 k h e = omega arith

-- a whole number from 1 on, over y, is no less than 1 over y's numerator
cross : (n x xd y yd : ℕ) → 1 ≤ n → 1 ≤ yd → x ≡ n * xd → 1 * (y * xd) ≤ x * yd * y
cross n x xd y yd h g e =
    let a : 1 * xd * 1 * y ≤ n * xd * yd * y = mul-le-mul_right y (mul-le-mul (mul-le-mul h (le_refl xd)) g) in
    rw (e, one-mul (y * xd), mul_comm y xd) (rw (one-mul xd, mul-one xd) at a)

quotient_low : (f : Format) (x y : Float) (n : ℕ) → 0 < n → HasValue x false n 1 → T (positive y) → 0 < num y → T (le (round f false 1 (num y)) (div f x y))
quotient_low f x y n h v q g =
    rw (div_is f x y (positive_of_value x n 1 v h) q)
    (round_mono f 1 (num y) (num x * den y) (num y * den x) g (mul-pos g (den_pos x)) (cross n (num x) (den x) (num y) (den y) h (den_pos y) (sym (mul-one (num x)) ∙ value→cross x n 1 v)))

-- ---- what is above 0 does not equal it
level_0 : (a b : ℕ) (t : Bool) → 0 < a → b ≡ 0 → (eqb a b && t) ≡ false
level_0 a b t h e = rw (ne_eqb a b (other a b h e))
  where
    other : (a b : ℕ) → 0 < a → b ≡ 0 → a ≡ b → ⊥
    other a b h e f = omega arith

above_not : (z : Float) (d : ℤ) → T (above z) → eq z (fin false 0 d) ≡ false
unfolding eq
above_not nan d t = refl
above_not (inf s) d t = refl
above_not (fin true m e) d t = absurd t
above_not (fin false m e) d t =
    level_0 (m * up e * down d) (0 * up d * down e) _ (mul-pos (mul-pos (ltb→lt 0 m t) (up_pos e)) (down_pos d)) (ap (λ (k : ℕ). k * down e) (zero-mul (up d)) ∙ zero-mul (down e))

above_not_0 : (z : Float) → T (above z) → eq z plus_zero ≡ false
unfolding of_bits
above_not_0 z t = above_not z (pos 0) t

-- ---- over the days of a year
low_quotient : (d : DayCount) → T (positive (round binary64 false 1 (num (year_of d))))
unfolding round of_bits
low_quotient Actual360 = tt
low_quotient Actual365 = tt
low_quotient Thirty360 = tt

year_above_0 : (d : DayCount) → T (positive (year_of d)) × T (ltb 0 (num (year_of d)))
unfolding of_bits
year_above_0 Actual360 = (tt, tt)
year_above_0 Actual365 = (tt, tt)
year_above_0 Thirty360 = (tt, tt)

pub some_days : (d : DayCount) (days : ℕ) → 1 ≤ days → days < 2 ^ 53 → eq (day_fraction d days) plus_zero ≡ false
unfolding day_fraction
some_days d days low high =
    let q = quotient_low binary64 (of_int binary64 (pos days)) (year_of d) days low (whole_value binary64 days (le_of_lt high)) (year_above_0 d).0 (ltb→lt 0 (num (year_of d)) (year_above_0 d).1) in
    above_not_0 _ (above_of_le _ _ (low_quotient d) q)

pub no_days : (d : DayCount) → day_fraction d 0 ≡ plus_zero
unfolding day_fraction div of_int round of_bits
no_days Actual360 = refl
no_days Actual365 = refl
no_days Thirty360 = refl

zero_level : eq plus_zero plus_zero ≡ true
unfolding eq of_bits
zero_level = refl

pub no_fraction_exactly : (d : DayCount) (days : ℕ) → days < 2 ^ 53 → (eq (day_fraction d days) plus_zero ≡ true) ↔ (days ≡ 0)
no_fraction_exactly d days high = (none days high, λ e. ap (λ (n : ℕ). eq (day_fraction d n) plus_zero) e ∙ level d)
  where
    level : (d : DayCount) → eq (day_fraction d 0) plus_zero ≡ true
    level d = ap (λ (x : Float). eq x plus_zero) (no_days d) ∙ zero_level

    none : (days : ℕ) → days < 2 ^ 53 → eq (day_fraction d days) plus_zero ≡ true → days ≡ 0
    none zero high e = refl
    none (suc n) high e = absurd (clash e (some_days d (suc n) (zero-lt-suc n) high))
