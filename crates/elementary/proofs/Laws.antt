-- Laws of exp and ln that a reader looks for first. Assumes nothing.
use mathlib.Core.Path.{◌≡◌, refl, sym, ap, ◌∙◌, subst}
use mathlib.Core.Bool.{Bool, true, false, ◌&&◌, cond}
use Prim.Native.Nat.{ℕ, zero, suc, ◌+◌, ◌-◌, ◌*◌, ◌%◌, ◌^◌, ◌≤◌, ◌<◌}
use native.Mathlib.Nat.{zero-lt-suc, lt_of_lt_of_le, pow-succ'}
use native.Mathlib.Omega.{arith}
use lib.IntN.{ℤ, pos, ◌+ℤ◌}
use lib.Dec.{T, leb, ltb, eqb, ltb→lt}
use lib.Pow.{pow-add, pow_pos, pow_mono, shl_lt}
use lib.Ieee.{Float, nan, inf, fin, binary64, up, down, size, fits, is_nan, round, add, sub, mul, div, neg, lt, of_int, of_bits}
use lib.Ieee.Digits.{size-lt, size-le, size_reaches, back}
use lib.Ieee.Exact.{HasValue, round_exact}
use lib.Ieee.Fits.{and_l, and_r, nan-fits, inf-fits, add-fits, mul-fits}
use Rattle.numbers.specs.Literals.{one, seven_hundred_nine, minus_seven_hundred_eight, root_two}
use Rattle.numbers.specs.Clamps.{plus_zero}
use Rattle.numbers.specs.Sizes.{absolute}
use Rattle.numbers.specs.Whole.{nearest_whole}
use Rattle.elementary.specs.Horner.{horner}
use Rattle.elementary.specs.Exp.{factorial, inverse_factorial, below, halvings, two_to, reduced, exp_within, exp_not_above, exp_of, exp}
use Rattle.elementary.specs.Ln.{inverse_odd, leading, exponent, slope, ln_of, ln_by, ln}
use Rattle.elementary.proofs.ExpFinite.{steps_no_nan}
use Rattle.elementary.proofs.Sizes.{size_pos, power_sum}

-- ---- exp of 0 and of -0 is 1, and ln of 1 is +0
pub exp_of_zero : (s : Bool) → exp (fin s 0 (pos 0)) ≡ one
unfolding exp exp_of exp_not_above exp_within lt of_bits below halvings mul absolute nearest_whole of_int neg round reduced sub horner inverse_factorial factorial add two_to
exp_of_zero true = refl
exp_of_zero false = refl

pub ln_of_one : ln one ≡ plus_zero
unfolding ln of_bits ln_by lt leading exponent size slope ln_of round sub add div mul horner inverse_odd of_int
ln_of_one = refl

-- ---- exp gives NaN for NaN alone
no_nan : (x : Float) → is_nan x ≡ false → x ≡ nan → ⊥
unfolding is_nan
no_nan x h e = subst T (ap is_nan (sym e) ∙ h) tt

by_tests : (s : Bool) (m : ℕ) (e : ℤ) (a b : Bool) → lt seven_hundred_nine (fin s m e) ≡ a → lt (fin s m e) minus_seven_hundred_eight ≡ b → is_nan (exp (fin s m e)) ≡ false
unfolding exp exp_of exp_not_above is_nan of_bits
by_tests s m e true b p q = ap (λ (t : Bool). is_nan (exp_of t (fin s m e))) p
by_tests s m e false true p q = ap (λ (t : Bool). is_nan (exp_of t (fin s m e))) p ∙ ap (λ (t : Bool). is_nan (exp_not_above t (fin s m e))) q
by_tests s m e false false p q = ap (λ (t : Bool). is_nan (exp_of t (fin s m e))) p ∙ ap (λ (t : Bool). is_nan (exp_not_above t (fin s m e))) q ∙ steps_no_nan s m e p q

pub exp_of_nan : exp nan ≡ nan
unfolding exp
exp_of_nan = refl

pub exp_gives_nan_for_nan_alone : (x : Float) → exp x ≡ nan → x ≡ nan
exp_gives_nan_for_nan_alone nan h = refl
exp_gives_nan_for_nan_alone (inf true) h = absurd (no_nan (exp (inf true)) (unfold exp exp_of exp_not_above is_nan lt of_bits in refl) h)
exp_gives_nan_for_nan_alone (inf false) h = absurd (no_nan (exp (inf false)) (unfold exp exp_of is_nan lt of_bits in refl) h)
exp_gives_nan_for_nan_alone (fin s m e) h = absurd (no_nan (exp (fin s m e)) (by_tests s m e (lt seven_hundred_nine (fin s m e)) (lt (fin s m e) minus_seven_hundred_eight) refl refl) h)

-- ---- the results fit
exp_not_above_fits : (b : Bool) (x : Float) → T (fits binary64 (exp_not_above b x))
unfolding exp_not_above exp_within
exp_not_above_fits true x = unfold fits of_bits in tt
exp_not_above_fits false x = mul-fits binary64 (horner inverse_factorial (reduced x (cond (below x) (neg (of_int binary64 (pos (halvings x)))) (of_int binary64 (pos (halvings x))))) 0 13) (two_to (below x) (halvings x))

exp_of_fits : (b : Bool) (x : Float) → T (fits binary64 (exp_of b x))
unfolding exp_of
exp_of_fits true x = inf-fits binary64 false
exp_of_fits false x = exp_not_above_fits (lt x minus_seven_hundred_eight) x

pub exp_fits : (x : Float) → T (fits binary64 (exp x))
unfolding exp
exp_fits nan = nan-fits binary64
exp_fits (inf s) = exp_of_fits (lt seven_hundred_nine (inf s)) (inf s)
exp_fits (fin s m e) = exp_of_fits (lt seven_hundred_nine (fin s m e)) (fin s m e)

ln_by_fits : (b : Bool) (m : Float) (e : ℤ) → T (fits binary64 (ln_by b m e))
unfolding ln_by ln_of
ln_by_fits true m e = add-fits binary64 _ _
ln_by_fits false m e = add-fits binary64 _ _

pub ln_fits : (x : Float) → T (fits binary64 (ln x))
unfolding ln
ln_fits nan = nan-fits binary64
ln_fits (inf true) = nan-fits binary64
ln_fits (inf false) = inf-fits binary64 false
ln_fits (fin s zero k) = inf-fits binary64 true
ln_fits (fin true (suc n) k) = nan-fits binary64
ln_fits (fin false (suc n) k) = ln_by_fits (lt root_two (leading (suc n))) (leading (suc n)) (exponent (suc n) k)

-- ---- x is m * 2 ^ e exactly, m in [1,2): m is the fraction n / 2 ^ (size n - 1), and 2 ^ e the fraction up e / down e
pub record Apart (n : ℕ) (k : ℤ) : Type 0 where
  pub m_is : HasValue (leading n) false n (2 ^ (size n - 1))
  pub one_or_more : 2 ^ (size n - 1) ≤ n
  pub below_two : n < 2 * 2 ^ (size n - 1)
  pub x_is : HasValue (fin false n k) false (n * up (exponent n k)) (2 ^ (size n - 1) * down (exponent n k))

few_digits : (n : ℕ) (k : ℤ) → T (fits binary64 (fin false (suc n) k)) → suc n < 2 ^ 53
unfolding fits
few_digits n k t =
    let a = eqb (suc n % 2) 1 in
    let b = ltb (suc n) (2 ^ 53) in
    let c = leb (down k) (2 ^ 1074) in
    let d = ltb (suc n * up k) (2 ^ 1024 * down k) in
    ltb→lt (suc n) (2 ^ 53) (and_r a b (and_l (a && b) c (and_l (a && b && c) d t)))

pub apart : (n : ℕ) (k : ℤ) → T (fits binary64 (fin false (suc n) k)) → Apart (suc n) k
unfolding leading exponent
apart n k t =
    let z = size (suc n) in
    let p = z - 1 in
    let few : suc n < 2 ^ 53 = few_digits n k t in
    let short : p ≤ 52 = less z (size-le (suc n) 53 few) in
    let some : 0 < z = size_pos (suc n) (zero-lt-suc n) in
    record {
      m_is =
          round_exact binary64 false (suc n) (2 ^ p) (suc n) (1074 - p) (pow_pos p) few
          (lt_of_lt_of_le (shl_lt 53 (1074 - p) few) (pow_mono (room p)))
          (turn (suc n) (2 ^ 1074) (2 ^ (1074 - p)) (2 ^ p) (ap (λ (i : ℕ). 2 ^ i) (sym (back 1074 p (wide p short))) ∙ pow-add 2 (1074 - p) p));
      one_or_more = size_reaches (suc n) p (last z some);
      below_two = subst (λ (i : ℕ). suc n < i) (ap (λ (i : ℕ). 2 ^ i) (whole z some) ∙ pow-succ' 2 p) (size-lt (suc n));
      x_is = (refl, over (suc n) (up k) (2 ^ p) (down (pos p +ℤ k)) (up (pos p +ℤ k)) (down k) (power_sum p k));
    }
  where
    less : (z : ℕ) → z ≤ 53 → z - 1 ≤ 52
    less z h = omega arith

    room : (p : ℕ) → 53 + (1074 - p) ≤ 1074 + 1024
    room p = omega arith

    wide : (p : ℕ) → p ≤ 52 → p ≤ 1074
    wide p h = omega arith

    last : (z : ℕ) → 0 < z → z - 1 < z
    last z h = omega arith

    whole : (z : ℕ) → 0 < z → z ≡ suc (z - 1)
    whole z h = omega arith

    turn : (n a b c : ℕ) → a ≡ b * c → n * a ≡ n * b * c
    turn n a b c e = omega (arith, ap (λ (i : ℕ). n * i) e)

    over : (n u P d U D : ℕ) → U * D ≡ u * P * d → n * u * (P * d) ≡ n * U * D
    over n u P d U D e = omega (arith, ap (λ (i : ℕ). n * i) e)
