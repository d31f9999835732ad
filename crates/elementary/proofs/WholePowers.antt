-- Whole powers beside 1: every power of 1 is 1, and so is an even power of -1; a power above 0 of what is 1 or more is no less than it. The machine holds every power. Assumes nothing.
use mathlib.Core.Path.{◌≡◌, refl, ◌∙◌}
use mathlib.Core.Bool.{Bool, true, false, cond}
use Prim.Native.Nat.{ℕ, zero, suc, ◌/◌, ◌%◌, ◌≤◌, ◌<◌}
use native.Mathlib.Omega.{arith}
use lib.Dec.{T, eqb}
use lib.Ieee.{Float, binary64, mul, le, lt, eq, fits, of_bits}
use lib.Ieee.Fits.{mul-fits, cond-fits}
use borrow.Author.Tests.{ne_eqb, eqb-false}
use Rattle.numbers.specs.Literals.{one, minus_one}
use Rattle.numbers.proofs.Comparing.{second_real, at_or_below_real, lt_itself, le_trans}
use Rattle.numbers.proofs.Growing.{product_turned, product_not_below}
use Rattle.elementary.specs.WholePower.{turns, whole_power}
use Rattle.elementary.proofs.Turns.{turn}

-- ---- powers of 1 and of -1
one_squared : mul binary64 one one ≡ one
unfolding mul of_bits
one_squared = refl

minus_one_squared : mul binary64 minus_one minus_one ≡ one
unfolding mul of_bits
minus_one_squared = refl

either_one : (b : Bool) (x y : Float) → x ≡ one → y ≡ one → cond b x y ≡ one
either_one true x y p q = p
either_one false x y p q = q

turns_at_one : (k n : ℕ) (p b : Float) → p ≡ one → b ≡ one → turns k n p b ≡ one
unfolding turns
turns_at_one zero n p b h g = h
turns_at_one (suc k) zero p b h g = h
turns_at_one (suc k) (suc m) p b h g =
    turns_at_one k (suc m / 2) _ _ (either_one (eqb (suc m % 2) 1) (mul binary64 p b) p (rw (h, g) one_squared) h) (either_one (eqb (suc m / 2) 0) b (mul binary64 b b) g (rw g one_squared))

pub power_of_one : (n : ℕ) → whole_power one n ≡ one
unfolding whole_power
power_of_one n = turns_at_one n n one one refl refl

pub even_power_of_minus_one : (n : ℕ) → n % 2 ≡ 0 → whole_power minus_one n ≡ one
unfolding whole_power turns
even_power_of_minus_one zero e = refl
even_power_of_minus_one (suc m) e =
    turn (suc m) one minus_one (λ z. omega arith)
    ∙ turns_at_one (suc m / 2) (suc m / 2) _ _ (rw (ne_eqb (suc m % 2) 1 (λ z. omega arith)) refl) (rw (ne_eqb (suc m / 2) 0 (λ z. omega arith)) minus_one_squared)

-- ---- powers of what is 1 or more
-- a product and a base that the machine holds, both 1 or more
record HeldFromOne (x : Float) : Type 0 where
  held : T (fits binary64 x)
  no_less : le one x ≡ true

times : (x y : Float) → HeldFromOne x → HeldFromOne y → HeldFromOne (mul binary64 x y) × (le x (mul binary64 x y) ≡ true)
times x y p q =
    let grows = product_not_below binary64 x y p.held p.no_less q.no_less in
    (record { held = mul-fits binary64 x y; no_less = le_trans one x (mul binary64 x y) p.no_less grows }, grows)

no_less_itself : (x : Float) → HeldFromOne x → le x x ≡ true
no_less_itself x p = let r = second_real one x p.no_less in at_or_below_real x x r r (lt_itself x)

-- what the product is multiplied by, and what the base becomes
multiplied : (b : Bool) (x y : Float) → HeldFromOne x → HeldFromOne y → HeldFromOne (cond b (mul binary64 x y) x) × (le x (cond b (mul binary64 x y) x) ≡ true)
multiplied true x y p q = let w = times x y p q in (w.0, w.1)
multiplied false x y p q = (p, no_less_itself x p)

squared : (b : Bool) (x : Float) → HeldFromOne x → HeldFromOne (cond b x (mul binary64 x x))
squared true x p = p
squared false x p = (times x x p p).0

turns_not_below : (k n : ℕ) (p b : Float) → HeldFromOne p → HeldFromOne b → le p (turns k n p b) ≡ true
unfolding turns
turns_not_below zero n p b h g = no_less_itself p h
turns_not_below (suc k) zero p b h g = no_less_itself p h
turns_not_below (suc k) (suc m) p b h g =
    let w = multiplied (eqb (suc m % 2) 1) p b h g in
    le_trans p _ _ w.1 (turns_not_below k (suc m / 2) _ _ w.0 (squared (eqb (suc m / 2) 0) b g))

turns_not_below_base : (k n : ℕ) (p b : Float) → 0 < n → n ≤ k → HeldFromOne p → HeldFromOne b → le b (turns k n p b) ≡ true
unfolding turns
turns_not_below_base zero n p b l r h g = absurd (omega arith)
turns_not_below_base (suc k) zero p b l r h g = absurd (omega arith)
turns_not_below_base (suc k) (suc m) p b l r h g =
    go (eqb (suc m % 2) 1) (eqb-false (suc m % 2) 1) (λ (some : 0 < suc m / 2). turns_not_below_base k (suc m / 2) p (mul binary64 b b) some (omega arith) h (times b b g g).0)
  where
    left : (suc m % 2 ≡ 1 → ⊥) → 0 < suc m / 2
    left even = omega (arith, even)

    go : (odd : Bool) → (odd ≡ false → suc m % 2 ≡ 1 → ⊥) → (0 < suc m / 2 → le (mul binary64 b b) (turns k (suc m / 2) p (mul binary64 b b)) ≡ true)
        → le b (turns k (suc m / 2) (cond odd (mul binary64 p b) p) (cond (eqb (suc m / 2) 0) b (mul binary64 b b))) ≡ true
    go true even rest =
        let w = times b p g h in
        rw (product_turned binary64 p b)
        (le_trans b (mul binary64 b p) _ w.1 (turns_not_below k (suc m / 2) (mul binary64 b p) _ w.0 (squared (eqb (suc m / 2) 0) b g)))
    go false even rest =
        rw (ne_eqb (suc m / 2) 0 (λ z. even refl (omega arith)))
        (le_trans b (mul binary64 b b) _ (times b b g g).1 (rest (left (even refl))))

pub power_not_below : (b : Float) (n : ℕ) → T (fits binary64 b) → le one b ≡ true → 0 < n → le b (whole_power b n) ≡ true
unfolding whole_power le lt eq fits of_bits
power_not_below b n t h l = turns_not_below_base n n one b l (omega arith) (record { held = tt; no_less = refl }) (record { held = t; no_less = h })

-- ---- the machine holds every power
turns_held : (k n : ℕ) (p b : Float) → T (fits binary64 p) → T (fits binary64 (turns k n p b))
unfolding turns
turns_held zero n p b t = t
turns_held (suc k) zero p b t = t
turns_held (suc k) (suc m) p b t = turns_held k (suc m / 2) _ _ (cond-fits binary64 (eqb (suc m % 2) 1) (mul binary64 p b) p (mul-fits binary64 p b) t)

pub power_held : (b : Float) (n : ℕ) → T (fits binary64 (whole_power b n))
unfolding whole_power fits of_bits
power_held b n = turns_held n n one b tt
