-- Repeated squaring turn by turn: how many turns are allowed does not matter once the exponent's halvings are done, and an even exponent may multiply by 1.
-- Assumes nothing.
use mathlib.Core.Path.{◌≡◌, refl, ap, ◌∙◌}
use Prim.Native.Nat.{ℕ, zero, suc, ◌/◌, ◌%◌, ◌≤◌}
use native.Mathlib.Omega.{arith}
use mathlib.Core.Bool.{Bool, true, false, cond}
use lib.Dec.{T, eqb}
use lib.Ieee.{Float, binary64, mul, fits}
use borrow.Author.Tests.{eq-eqb, ne_eqb}
use Rattle.numbers.specs.Literals.{one}
use Rattle.elementary.specs.WholePower.{turns}
use Rattle.elementary.proofs.Unrounded.{times_one}

half_fits : (m k : ℕ) → suc m ≤ suc k → suc m / 2 ≤ k
half_fits m k h = omega arith

-- any two allowances that the exponent fits give the same
pub enough : (k j n : ℕ) (p b : Float) → n ≤ k → n ≤ j → turns k n p b ≡ turns j n p b
unfolding turns
enough zero zero n p b h g = refl
enough zero (suc j) zero p b h g = refl
enough zero (suc j) (suc m) p b h g = absurd (omega arith)
enough (suc k) zero zero p b h g = refl
enough (suc k) zero (suc m) p b h g = absurd (omega arith)
enough (suc k) (suc j) zero p b h g = refl
enough (suc k) (suc j) (suc m) p b h g = enough k j (suc m / 2) _ _ (half_fits m k h) (half_fits m j g)

-- one turn at an exponent that is not 0
pub turn : (n : ℕ) (p b : Float) → (n ≡ 0 → ⊥)
    → turns n n p b ≡ turns (n / 2) (n / 2) (cond (eqb (n % 2) 1) (mul binary64 p b) p) (cond (eqb (n / 2) 0) b (mul binary64 b b))
unfolding turns
turn zero p b h = absurd (h refl)
turn (suc m) p b h = enough m (suc m / 2) (suc m / 2) _ _ (half_fits m m (omega arith)) (omega arith)

-- the product times the square or times 1
pub chosen : (odd : Bool) (p b factor : Float) → T (fits binary64 p) → factor ≡ cond odd b one → mul binary64 p factor ≡ cond odd (mul binary64 p b) p
chosen true p b factor t e = ap (mul binary64 p) e
chosen false p b factor t e = ap (mul binary64 p) e ∙ times_one p t

-- the loop's turn, where some is left and where none is
pub turn_on : (n : ℕ) (p q b : Float) → (n ≡ 0 → ⊥) → q ≡ cond (eqb (n % 2) 1) (mul binary64 p b) p → (n / 2 ≡ 0 → ⊥)
    → turns n n p b ≡ turns (n / 2) (n / 2) q (mul binary64 b b)
turn_on n p q b h e g = turn n p b h ∙ rw (e, ne_eqb (n / 2) 0 g)

pub turn_last : (n : ℕ) (p q b : Float) → (n ≡ 0 → ⊥) → q ≡ cond (eqb (n % 2) 1) (mul binary64 p b) p → n / 2 ≡ 0
    → turns n n p b ≡ turns (n / 2) (n / 2) q b
turn_last n p q b h e g = turn n p b h ∙ rw (e, eq-eqb (n / 2) 0 g)

pub ended : (n : ℕ) (p b : Float) → n ≡ 0 → turns n n p b ≡ p
unfolding turns
ended n p b e = rw e
