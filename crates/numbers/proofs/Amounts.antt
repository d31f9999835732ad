-- Amounts: the finite values of a format that are not below zero, -0 taken in. Each is a whole number of the format's smallest value, its count, and has one count.
-- Assumes nothing.
use Rattle.std.proofs.Common.{◌≡◌, ℕ, zero, suc, ◌+◌, ◌-◌, ◌*◌, ◌/◌, ◌%◌, ◌^◌, ◌<◌, ◌≤◌, Bool, true, false, not, ◌&&◌, ◌||◌, T, eqb, ltb, leb, ℤ, pos, negsuc, sym, refl, ap, ◌∙◌, subst, le_trans, le_of_suc-le-suc, mul-le-mul_right, lt_of_mul-lt-mul_right, mul-lt-mul_of_pos_right, mul-pos, lt_of_not-le, not-le_of_lt, mul-div_cancel, arith, eqb→eq, ltb→lt, leb→le, pow_pos, pow-add}
use native.Mathlib.Nat.{eq_of_mul-eq-mul_right}
use lib.Pow.{pow-lt}
use lib.Ieee.{Float, nan, inf, fin, Format, prec, emax, low, up, down, fits}
use lib.Ieee.Digits.{back}
use lib.Ieee.Fits.{up_pos, down_pos, and_i, and_l, and_r}
use lib.Ieee.Scale.{finite, overflow}
use Rattle.numbers.specs.Units.{count}

-- a test that came out true
pub passes : {b : Bool} → b ≡ true → T b
passes e = subst T (sym e) tt

unfoldable pub amount : Format → Float → Bool
amount f nan = false
amount f (inf s) = false
amount f (fin s m e) = (not s || eqb m 0) && fits f (fin s m e)

-- x is finite and not below zero, and it is n units
abbrev pub Counts : Format → Float → ℕ → Type 0
Counts f nan n = ⊥
Counts f (inf s) n = ⊥
Counts f (fin s m e) n = (T s → m ≡ 0) × (m * up e * 2 ^ low f ≡ n * down e)

-- n units have no more leading digits than the format keeps, and stay below its overflow
pub record Held (f : Format) (n : ℕ) : Type 0 where
  pub digits : ℕ
  pub shift : ℕ
  pub small : digits < 2 ^ prec f
  pub is : n ≡ digits * 2 ^ shift
  pub below : n < overflow f

-- ---- what `fits` says of m * 2 ^ e
record Written (f : Format) (m : ℕ) (e : ℤ) : Type 0 where
  small : m < 2 ^ prec f
  fine : down e ≤ 2 ^ low f
  under : m * up e < 2 ^ suc (emax f) * down e

written : (f : Format) (s : Bool) (m : ℕ) (e : ℤ) → T (fits f (fin s m e)) → Written f m e
unfolding fits
written f s zero e t =
    record {
      small = pow_pos (prec f);
      fine = le_trans (one (up e) (down e) (up_pos e) (eqb→eq (up e * down e) 1 t)) (pow_pos (low f));
      under = nothing (up e) (2 ^ suc (emax f) * down e) (mul-pos (pow_pos (suc (emax f))) (down_pos e));
    }
  where
    one : (u d : ℕ) → 0 < u → u * d ≡ 1 → d ≤ 1
    one u d h e = omega (arith, mul-le-mul_right d h)

    nothing : (u x : ℕ) → 0 < x → 0 * u < x
    nothing u x h = omega arith
written f s (suc m) e t =
    let a : Bool = eqb (suc m % 2) 1 in
    let b : Bool = ltb (suc m) (2 ^ prec f) in
    let c : Bool = leb (down e) (2 ^ low f) in
    let d : Bool = ltb (suc m * up e) (2 ^ suc (emax f) * down e) in
    record {
      small = ltb→lt (suc m) (2 ^ prec f) (and_r a b (and_l (a && b) c (and_l (a && b && c) d t)));
      fine = leb→le (down e) (2 ^ low f) (and_r (a && b) c (and_l (a && b && c) d t));
      under = ltb→lt (suc m * up e) (2 ^ suc (emax f) * down e) (and_r (a && b && c) d t);
    }

-- ---- the count of a value that fits, of either sign, is whole
exponent_le : (i j : ℕ) → 2 ^ i ≤ 2 ^ j → i ≤ j
exponent_le i j h = le_of_suc-le-suc (lt_of_not-le (λ (g : suc j ≤ i). not-le_of_lt (pow-lt g) h))

in_units : (l m : ℕ) (e : ℤ) → down e ≤ 2 ^ l → (j : ℕ) × (m * up e * 2 ^ l ≡ m * 2 ^ j * down e)
in_units l m (pos k) h = (k + l, rw (pow-add 2 k l) (turn m (2 ^ k) (2 ^ l)))
  where
    turn : (m a b : ℕ) → m * a * b ≡ m * (a * b) * 1
    turn m a b = omega arith
in_units l m (negsuc k) h = (l - suc k, turn m (2 ^ (l - suc k)) (2 ^ suc k) (2 ^ l) (ap (λ (z : ℕ). 2 ^ z) (sym (back l (suc k) (exponent_le (suc k) l h))) ∙ pow-add 2 (l - suc k) (suc k)))
  where
    turn : (m a b c : ℕ) → c ≡ a * b → m * 1 * c ≡ m * a * b
    turn m a b c e = omega (arith, ap (λ (z : ℕ). m * z) e)

count_is : (f : Format) (s : Bool) (m : ℕ) (e : ℤ) (n : ℕ) → m * up e * 2 ^ low f ≡ n * down e → count f (fin s m e) ≡ n
unfolding count
count_is f s m e n h = ap (λ (z : ℕ). z / down e) h ∙ mul-div_cancel n (down_pos e)

whole : (f : Format) (s : Bool) (m : ℕ) (e : ℤ) → T (fits f (fin s m e)) → (m * up e * 2 ^ low f ≡ count f (fin s m e) * down e) × Held f (count f (fin s m e))
whole f s m e t =
    let w = written f s m e t in
    let u = in_units (low f) m e w.fine in
    subst (λ (n : ℕ). (m * up e * 2 ^ low f ≡ n * down e) × Held f n) (sym (count_is f s m e (m * 2 ^ u.0) u.1)) (
      u.1,
      record {
        digits = m;
        shift = u.0;
        small = w.small;
        is = refl;
        below = rw (pow-add 2 (low f) (suc (emax f))) (top (m * up e) (2 ^ suc (emax f)) (down e) (2 ^ low f) (m * 2 ^ u.0) (pow_pos (low f)) w.under u.1);
      },
    )
  where
    top : (x E d L n : ℕ) → 0 < L → x < E * d → x * L ≡ n * d → n < L * E
    top x E d L n l h c = lt_of_mul-lt-mul_right d (omega (arith, mul-lt-mul_of_pos_right h l))

pub counts : (f : Format) (x : Float) → T (amount f x) → Counts f x (count f x)
unfolding amount
counts f nan t = absurd t
counts f (inf s) t = absurd t
counts f (fin s m e) t = (unsigned s m (and_l (not s || eqb m 0) (fits f (fin s m e)) t), (whole f s m e (and_r (not s || eqb m 0) (fits f (fin s m e)) t)).0)
  where
    unsigned : (s : Bool) (m : ℕ) → T (not s || eqb m 0) → T s → m ≡ 0
    unsigned true m t u = eqb→eq m 0 t
    unsigned false m t u = absurd u

pub one_count : (f : Format) (x : Float) (n : ℕ) → Counts f x n → count f x ≡ n
one_count f nan n c = absurd c
one_count f (inf s) n c = absurd c
one_count f (fin s m e) n c = count_is f s m e n c.1

-- of the negative ones only -0 is an amount
pub negative_counts_nothing : (f : Format) (s : Bool) (m : ℕ) (e : ℤ) (n : ℕ) → Counts f (fin s m e) n → T s → n ≡ 0
negative_counts_nothing f s m e n c t = eq_of_mul-eq-mul_right (down e) (down_pos e) n 0 (none (up e) (2 ^ low f) (down e) (c.0 t) c.1)
  where
    none : (u L d : ℕ) → m ≡ 0 → m * u * L ≡ n * d → n * d ≡ 0 * d
    none u L d z h = sym h ∙ rw z (omega arith)

-- ---- an amount fits, is finite, and is held
pub amount_fits : (f : Format) (x : Float) → T (amount f x) → T (fits f x)
unfolding amount
amount_fits f nan t = absurd t
amount_fits f (inf s) t = absurd t
amount_fits f (fin s m e) t = and_r (not s || eqb m 0) (fits f (fin s m e)) t

pub amount_finite : (f : Format) (x : Float) → T (amount f x) → T (finite x)
unfolding amount
amount_finite f nan t = t
amount_finite f (inf s) t = t
amount_finite f (fin s m e) t = tt

pub held : (f : Format) (x : Float) → T (amount f x) → Held f (count f x)
unfolding amount
held f nan t = absurd t
held f (inf s) t = absurd t
held f (fin s m e) t = (whole f s m e (amount_fits f (fin s m e) t)).1

pub amount_of_count : (f : Format) (x : Float) (n : ℕ) → Counts f x n → T (fits f x) → T (amount f x)
unfolding amount
amount_of_count f nan n c t = c
amount_of_count f (inf s) n c t = c
amount_of_count f (fin s m e) n c t = and_i (not s || eqb m 0) (fits f (fin s m e)) (unsigned s c.0) t
  where
    unsigned : (s : Bool) → (T s → m ≡ 0) → T (not s || eqb m 0)
    unsigned true h = subst (λ (x : ℕ). T (eqb x 0)) (sym (h tt)) tt
    unsigned false h = tt
