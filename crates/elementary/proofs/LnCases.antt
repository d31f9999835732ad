-- ln's definition case by case, in the order of the program's tests. Assumes nothing.
use mathlib.Core.Path.{◌≡◌, refl, sym, ap, ◌∙◌, subst}
use mathlib.Core.Bool.{Bool, true, false, ◌||◌, beq}
use Prim.Native.Nat.{ℕ, zero, suc, ◌+◌, ◌*◌, ◌<◌, ◌≤◌}
use native.Mathlib.Nat.{mul-pos, zero-lt-suc}
use native.Mathlib.Omega.{arith}
use borrow.Author.Tests.{ltb-true, ltb-false, lt-ltb}
use lib.IntN.{ℤ}
use lib.Dec.{T, eqb, eqb→eq}
use lib.Ieee.{Float, nan, inf, fin, up, down, lt, eq, ne, of_bits}
use lib.Ieee.Compare.{differs_from_itself, nan_differs}
use lib.Ieee.Fits.{up_pos, and_l, and_i, eq→eqb}
use lib.Ieee.Scale.{finite}
use Rattle.numbers.specs.Clamps.{plus_zero}
use Rattle.numbers.proofs.Amounts.{passes}
use Rattle.elementary.specs.Ln.{ln}

pub at_nan : (x : Float) → ne x x ≡ true → x ≡ ln x
unfolding ln
at_nan x h = differs_from_itself x (passes h) ∙ sym (ap ln (differs_from_itself x (passes h)))

nothing_below : (u d : ℕ) → 0 < 0 * u * 1 + 0 * 1 * d → ⊥
nothing_below u d h = omega arith

some : (n : ℕ) (k : ℤ) → 0 < suc n * up k * 1
some n k = mul-pos (mul-pos (zero-lt-suc n) (up_pos k)) (zero-lt-suc 0)

pub below_zero : (x : Float) → lt x plus_zero ≡ true → nan ≡ ln x
unfolding lt of_bits ln
below_zero nan h = absurd (passes h)
below_zero (inf true) h = refl
below_zero (inf false) h = absurd (passes h)
below_zero (fin false m k) h = absurd (no (m * up k * 1) (down k) (ltb-true (m * up k * 1) (0 * 1 * down k) h))
  where
    no : (a d : ℕ) → a < 0 * 1 * d → ⊥
    no a d h = omega arith
below_zero (fin true zero k) h = absurd (nothing_below (up k) (down k) (ltb-true 0 (0 * up k * 1 + 0 * 1 * down k) h))
below_zero (fin true (suc n) k) h = refl

pub at_zero : (x : Float) → eq x plus_zero ≡ true → inf true ≡ ln x
unfolding eq of_bits ln
at_zero nan h = absurd (passes h)
at_zero (inf s) h = absurd (passes h)
at_zero (fin s zero k) h = refl
at_zero (fin s (suc n) k) h =
    let A = suc n * up k * 1 in
    absurd (no A (down k) (some n k) (eqb→eq A (0 * 1 * down k) (and_l (eqb A (0 * 1 * down k)) (beq s false || eqb A 0) (passes h))))
  where
    no : (a d : ℕ) → 0 < a → a ≡ 0 * 1 * d → ⊥
    no a d h e = omega arith

pub above_zero : (x : Float) → ne x x ≡ false → lt x plus_zero ≡ false → eq x plus_zero ≡ false → lt plus_zero x ≡ true
unfolding lt eq of_bits
above_zero nan n h g = absurd (subst T (sym nan_differs ∙ n) tt)
above_zero (inf true) n h g = absurd (subst T h tt)
above_zero (inf false) n h g = refl
above_zero (fin s zero k) n h g = absurd (subst T g (and_i (eqb (0 * up k * 1) (0 * 1 * down k)) (beq s false || eqb (0 * up k * 1) 0) (eq→eqb (none (up k) (down k))) (zero_size s (up k))))
  where
    none : (u d : ℕ) → 0 * u * 1 ≡ 0 * 1 * d
    none u d = omega arith

    none' : (u : ℕ) → 0 * u * 1 ≡ 0
    none' u = omega arith

    zero_size : (s : Bool) (u : ℕ) → T (beq s false || eqb (0 * u * 1) 0)
    zero_size true u = eq→eqb (none' u)
    zero_size false u = tt
above_zero (fin true (suc n) k) n' h g = absurd (no (suc n * up k * 1) (0 * 1 * down k) (some n k) (ltb-false 0 (suc n * up k * 1 + 0 * 1 * down k) h))
  where
    no : (a b : ℕ) → 0 < a → a + b ≤ 0 → ⊥
    no a b h g = omega arith
above_zero (fin false (suc n) k) n' h g = lt-ltb (0 * 1 * down k) (suc n * up k * 1) (over (suc n * up k * 1) (down k) (some n k))
  where
    over : (a d : ℕ) → 0 < a → 0 * 1 * d < a
    over a d h = omega arith

pub at_infinity : (x : Float) → lt plus_zero x ≡ true → finite x ≡ false → x ≡ ln x
unfolding lt of_bits ln
at_infinity nan h g = refl
at_infinity (inf true) h g = absurd (passes h)
at_infinity (inf false) h g = refl
at_infinity (fin s m k) h g = absurd (subst T g tt)
