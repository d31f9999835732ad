-- Zeros and their signs. A number of the machine is other than 0, or +0, or -0; a sum of zeros is -0 where both are, a finite number times +0 is the zero of its own sign, and a zero over a width
-- above 0 keeps its sign. Assumes nothing.
use mathlib.Core.Path.{◌≡◌, refl, sym, ap, ◌∙◌}
use mathlib.Core.Logic.{◌⊎◌, inl, inr}
use mathlib.Core.Bool.{Bool, true, false, ◌&&◌}
use Prim.Native.Nat.{ℕ, zero, suc, ◌+◌, ◌*◌, ◌^◌, ◌<◌, ◌≤◌}
use native.Mathlib.Nat.{mul-pos, zero-lt-suc, le_of_lt}
use native.Mathlib.Omega.{arith}
use lib.IntN.{ℤ, pos, negsuc}
use lib.Dec.{T, eqb, eqb→eq}
use lib.Pow.{pow-lt}
use lib.Ieee.{Float, nan, inf, fin, Format, binary64, up, down, unlike, fits, round, sum, add, sub, mul, div, lt, eq, of_bits}
use lib.Ieee.Bits.{is_true}
use lib.Ieee.Fits.{up_pos, down_pos, and_l}
use lib.Ieee.Scale.{finite}
use borrow.Author.Tests.{le-ltb, lt-ltb, ne_eqb}
use Rattle.numbers.specs.Clamps.{plus_zero}
use Rattle.numbers.proofs.Zeros.{plus_zero_lem, round_nothing}
use Rattle.numbers.proofs.Amounts.{amount}
use Rattle.numbers.proofs.Order.{lt_amount}
use Rattle.numbers.proofs.Differences.{difference}
use Rattle.numbers.proofs.Comparing.{clash, eq_itself}
use Rattle.elementary.proofs.Unrounded.{nought, nonzero, nonzero_between}

-- whether a minus stands before it
abbrev pub minus : Float → Bool
minus nan = false
minus (inf s) = s
minus (fin s m e) = s

-- ---- other than 0, or one of two zeros
one_power : (k : ℕ) → 2 ^ suc k ≡ 1 → ⊥
one_power k e = more (2 ^ suc k) (pow-lt {i = 0} {j = suc k} (zero-lt-suc k)) e
  where
    more : (n : ℕ) → 1 < n → n ≡ 1 → ⊥
    more n h e = omega arith

no_exponent : (e : ℤ) → up e * down e ≡ 1 → e ≡ pos 0
no_exponent (pos zero) h = refl
no_exponent (pos (suc k)) h = absurd (one_power k (one_of (2 ^ suc k) h))
  where
    one_of : (n : ℕ) → n * 1 ≡ 1 → n ≡ 1
    one_of n h = omega arith
no_exponent (negsuc k) h = absurd (one_power k (one_of (2 ^ suc k) h))
  where
    one_of : (n : ℕ) → 1 * n ≡ 1 → n ≡ 1
    one_of n h = omega arith

pub zero_or_not : (x : Float) → T (fits binary64 x) → T (finite x) → T (nonzero x) ⊎ ((s : Bool) × (x ≡ nought s))
unfolding fits
zero_or_not nan f h = absurd h
zero_or_not (inf s) f h = absurd h
zero_or_not (fin s zero e) f h = inr (s, ap (fin s 0) (no_exponent e (eqb→eq (up e * down e) 1 f)))
zero_or_not (fin s (suc m) e) f h = inl tt

-- ---- sums, products and quotients
pub add_noughts : (f : Format) (s t : Bool) → add f (nought s) (nought t) ≡ nought (s && t)
unfolding add sum
add_noughts f false false = round_nothing f false 1 (zero-lt-suc 0)
add_noughts f false true = round_nothing f false 1 (zero-lt-suc 0)
add_noughts f true false = round_nothing f false 1 (zero-lt-suc 0)
add_noughts f true true = round_nothing f true 1 (zero-lt-suc 0)

unlike_plus : (s : Bool) → unlike s false ≡ s
unlike_plus false = refl
unlike_plus true = refl

pub times_nought : (f : Format) (x : Float) → T (finite x) → mul f x (nought false) ≡ nought (minus x)
unfolding mul
times_nought f nan h = absurd h
times_nought f (inf s) h = absurd h
times_nought f (fin s m e) h =
    ap (λ (n : ℕ). round f (unlike s false) n (down e * 1)) (none (m * up e)) ∙ round_nothing f (unlike s false) (down e * 1) (mul-pos (down_pos e) (zero-lt-suc 0)) ∙ ap nought (unlike_plus s)
  where
    none : (M : ℕ) → M * (0 * 1) ≡ 0
    none M = omega arith

-- and what is not finite has no product with a zero
pub no_product : (f : Format) (x : Float) (z : Bool) → finite x ≡ false → mul f x (nought z) ≡ nan
unfolding mul
no_product f nan z h = refl
no_product f (inf s) z h = refl
no_product f (fin s m e) z h = clash (sym h)

pub nought_over_plus : (f : Format) (u : Bool) (x : Float) → T (nonzero x) → minus x ≡ false → div f (nought u) x ≡ nought u
unfolding div
nought_over_plus f u nan n p = absurd n
nought_over_plus f u (inf s) n p = absurd n
nought_over_plus f u (fin s zero e) n p = absurd n
nought_over_plus f u (fin true (suc m) e) n p = clash (sym p)
nought_over_plus f u (fin false (suc m) e) n p =
    rw (ne_eqb (suc m) 0 (λ h. omega arith)) (ap (λ (n : ℕ). round f (unlike u false) n (suc m * up e * 1)) (none (down e))
    ∙ round_nothing f (unlike u false) (suc m * up e * 1) (mul-pos (mul-pos (zero-lt-suc m) (up_pos e)) (zero-lt-suc 0)) ∙ ap nought (unlike_plus u))
  where
    none : (d : ℕ) → 0 * 1 * d ≡ 0
    none d = omega arith

-- ---- signs: of an amount other than 0, of a width, and of x - -0
plus_amount : (f : Format) (x : Float) → T (amount f x) → T (nonzero x) → minus x ≡ false
unfolding amount
plus_amount f nan a n = refl
plus_amount f (inf s) a n = absurd n
plus_amount f (fin s zero e) a n = absurd n
plus_amount f (fin false (suc m) e) a n = refl
plus_amount f (fin true (suc m) e) a n = absurd (none (eqb→eq (suc m) 0 (and_l (eqb (suc m) 0) (fits f (fin true (suc m) e)) a)))
  where
    none : suc m ≡ 0 → ⊥
    none z = omega arith

pub plus_between : (f : Format) (x y : Float) → T (amount f x) → T (amount f y) → T (lt y x) → minus (sub f x y) ≡ false
plus_between f x y p q l = plus_amount f (sub f x y) (difference f x y p q (le_of_lt ((lt_amount f y x q p).0 l))).is_amount (nonzero_between f x y p q l)

below_nought : (x : Float) → T (nonzero x) → minus x ≡ lt x (nought false)
unfolding lt
below_nought nan n = absurd n
below_nought (inf s) n = absurd n
below_nought (fin s zero e) n = absurd n
below_nought (fin false (suc m) e) n = sym (le-ltb (suc m * up e * 1) (0 * 1 * down e) (none (suc m * up e * 1) (down e)))
  where
    none : (A d : ℕ) → 0 * 1 * d ≤ A
    none A d = omega arith
below_nought (fin true (suc m) e) n = sym (lt-ltb 0 (suc m * up e * 1 + 0 * 1 * down e) (some (suc m * up e * 1) (down e) (mul-pos (mul-pos (zero-lt-suc m) (up_pos e)) (zero-lt-suc 0))))
  where
    some : (A d : ℕ) → 0 < A → 0 < A + 0 * 1 * d
    some A d h = omega arith

pub minus_is_below : (x : Float) → T (nonzero x) → minus x ≡ lt x plus_zero
minus_is_below x n = below_nought x n ∙ ap (lt x) (sym plus_zero_lem)

pub nothing_below : (s : Bool) → lt (nought s) plus_zero ≡ false
unfolding lt of_bits
nothing_below false = refl
nothing_below true = refl

-- ---- equal as numbers
eq_noughts : (s t : Bool) → eq (nought s) (nought t) ≡ true
unfolding eq
eq_noughts false false = refl
eq_noughts false true = refl
eq_noughts true false = refl
eq_noughts true true = refl

-- what is given is a number's own value, for one other than 0, and a zero for a zero: then it is the same number
pub same_number : (given own : Float) → T (fits binary64 own) → T (finite own) → (T (nonzero own) → given ≡ own) → ((s : Bool) → own ≡ nought s → (z : Bool) × (given ≡ nought z))
    → eq given own ≡ true
same_number given own f h other zero_too = go (zero_or_not own f h)
  where
    go : T (nonzero own) ⊎ ((s : Bool) × (own ≡ nought s)) → eq given own ≡ true
    go (inl n) = ap (λ (x : Float). eq x own) (other n) ∙ eq_itself own (is_true _ h)
    go (inr w) =
        let g = zero_too w.0 w.1 in
        ap (λ (x : Float). eq x own) g.1 ∙ ap (eq (nought g.0)) w.1 ∙ eq_noughts g.0 w.0
