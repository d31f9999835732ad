-- Where rounding changes nothing: x·1 is x, x/x is 1, and a zero added to a value other than 0 leaves it. A zero times a finite number is a zero, and so is a zero over a value other than 0.
-- Values that are equal, and other than 0, are the same. Assumes nothing.
use mathlib.Core.Path.{◌≡◌, refl, sym, ap, ◌∙◌}
use mathlib.Core.Bool.{Bool, true, false, ◌||◌, beq}
use Prim.Native.Nat.{ℕ, zero, suc, ◌*◌, ◌^◌, ◌<◌}
use native.Mathlib.Nat.{mul-pos, zero-lt-suc, le_of_lt}
use native.Mathlib.Omega.{arith}
use lib.IntN.{ℤ, pos}
use lib.Dec.{T, eqb, eqb→eq}
use lib.Ieee.{Float, nan, inf, fin, Format, binary64, low, up, down, fits, unlike, round, sum, add, mul, div, lt, eq, sub, of_bits}
use lib.Ieee.Fits.{up_pos, down_pos, and_l, and_r}
use lib.Ieee.Scale.{finite}
use borrow.Author.Tests.{le-ltb, lt-ltb, ne_eqb}
use Rattle.numbers.specs.Literals.{one}
use Rattle.numbers.specs.Clamps.{plus_zero}
use Rattle.numbers.specs.Units.{count}
use Rattle.numbers.proofs.Zeros.{round_nothing}
use Rattle.numbers.proofs.Amounts.{passes, amount, one_count}
use Rattle.numbers.proofs.Order.{zero_amount, lt_amount}
use Rattle.numbers.proofs.Differences.{difference, left_above_amounts}
use Rattle.numbers.proofs.Values.{same_value, round_itself}
use Rattle.numbers.proofs.Comparing.{clash}

-- ---- the zeros, and values other than 0
abbrev pub nought : Bool → Float
nought s = fin s 0 (pos 0)

abbrev pub nonzero : Float → Bool
nonzero nan = false
nonzero (inf s) = false
nonzero (fin s zero e) = false
nonzero (fin s (suc m) e) = true

pub nonzero_finite : (x : Float) → T (nonzero x) → T (finite x)
nonzero_finite nan n = n
nonzero_finite (inf s) n = n
nonzero_finite (fin s zero e) n = tt
nonzero_finite (fin s (suc m) e) n = tt

-- an amount above 0, and so what an amount leaves above a smaller one
above_nonzero : (f : Format) (x : Float) → T (amount f x) → T (lt plus_zero x) → T (nonzero x)
unfolding amount
above_nonzero f nan t h = absurd t
above_nonzero f (inf s) t h = absurd t
above_nonzero f (fin s zero e) t h = absurd (none (count f (fin s zero e)) (one_count f (fin s zero e) 0 ((λ u. refl), nothing (up e) (2 ^ low f) (down e))) (count f plus_zero) ((lt_amount f plus_zero (fin s zero e) (zero_amount f) t).0 h))
  where
    none : (n : ℕ) → n ≡ 0 → (k : ℕ) → k < n → ⊥
    none n z k l = omega arith

    nothing : (u L d : ℕ) → 0 * u * L ≡ 0 * d
    nothing u L d = omega arith
above_nonzero f (fin s (suc m) e) t h = tt

pub nonzero_between : (f : Format) (x y : Float) → T (amount f x) → T (amount f y) → T (lt y x) → T (nonzero (sub f x y))
nonzero_between f x y p q l = above_nonzero f (sub f x y) (difference f x y p q (le_of_lt ((lt_amount f y x q p).0 l))).is_amount (left_above_amounts f x y p q l)

-- ---- values that are equal, and other than 0, are the same
pub equal_same : (f : Format) (x y : Float) → T (fits f x) → T (fits f y) → T (nonzero y) → eq x y ≡ true → x ≡ y
unfolding eq
equal_same f nan y t u n h = clash h
equal_same f (inf s) nan t u n h = clash h
equal_same f (inf s) (inf r) t u n h = absurd n
equal_same f (inf s) (fin r k d) t u n h = clash h
equal_same f (fin s m e) nan t u n h = clash h
equal_same f (fin s m e) (inf r) t u n h = clash h
equal_same f (fin s m e) (fin r zero d) t u n h = absurd n
equal_same f (fin s m e) (fin r (suc k) d) t u n h =
    let A = m * up e * down d in
    let B = suc k * up d * down e in
    let level = eqb→eq A B (and_l (eqb A B) (beq s r || eqb A 0) (passes h)) in
    let sign = one_sign s r (ne_eqb A 0 (λ z. some B (mul-pos (mul-pos (zero-lt-suc k) (up_pos d)) (down_pos e)) (sym level ∙ z))) (and_r (eqb A B) (beq s r || eqb A 0) (passes h)) in
    same_value f (fin s m e) (fin r (suc k) d) r (m * up e) (down e) (suc k * up d) (down d) (down_pos e) (down_pos d) t u (sign, refl) (refl, refl) level
  where
    some : (B : ℕ) → 0 < B → B ≡ 0 → ⊥
    some B l z = omega arith

    one_sign : (s r : Bool) {z : Bool} → z ≡ false → T (beq s r || z) → s ≡ r
    one_sign false false e h = refl
    one_sign true true e h = refl
    one_sign false true e h = absurd (rw e at h)
    one_sign true false e h = absurd (rw e at h)

-- ---- x + 0 and 0 + x
nothing_more : (f : Format) (s z : Bool) (A c : ℕ) → 0 < A → sum f s A z 0 c ≡ round f s A c
unfolding sum
nothing_more f false false A c h = ap (λ (n : ℕ). round f false n c) (omega arith)
nothing_more f true true A c h = ap (λ (n : ℕ). round f true n c) (omega arith)
nothing_more f false true A c h = rw (le-ltb A 0 (omega arith)) (ap (λ (n : ℕ). round f false n c) (omega arith))
nothing_more f true false A c h = rw (le-ltb A 0 (omega arith), lt-ltb 0 A h) (ap (λ (n : ℕ). round f true n c) (omega arith))

more_than_nothing : (f : Format) (z s : Bool) (A c : ℕ) → 0 < A → sum f z 0 s A c ≡ round f s A c
unfolding sum
more_than_nothing f false false A c h = ap (λ (n : ℕ). round f false n c) (omega arith)
more_than_nothing f true true A c h = ap (λ (n : ℕ). round f true n c) (omega arith)
more_than_nothing f false true A c h = rw (lt-ltb 0 A h) (ap (λ (n : ℕ). round f true n c) (omega arith))
more_than_nothing f true false A c h = rw (lt-ltb 0 A h) (ap (λ (n : ℕ). round f false n c) (omega arith))

-- y is a zero, however it is written
no_size : (y : Float) → eq y plus_zero ≡ true → (z : Bool) × (n : ℕ) × (d : ℤ) × (y ≡ fin z n d) × (n * up d ≡ 0)
unfolding eq of_bits
no_size nan q = clash q
no_size (inf z) q = clash q
no_size (fin z n d) q = (z, n, d, refl, none (n * up d) (down d) (eqb→eq (n * up d * 1) (0 * 1 * down d) (and_l (eqb (n * up d * 1) (0 * 1 * down d)) _ (passes q))))
  where
    none : (N d : ℕ) → N * 1 ≡ 0 * 1 * d → N ≡ 0
    none N d h = omega arith

pub add_zero : (f : Format) (x y : Float) → T (fits f x) → T (nonzero x) → eq y plus_zero ≡ true → add f x y ≡ x
unfolding add
add_zero f nan y t n q = absurd n
add_zero f (inf s) y t n q = absurd n
add_zero f (fin s zero e) y t n q = absurd n
add_zero f (fin s (suc m) e) y t n q =
    let w = no_size y q in
    let d = w.2 in
    ap (add f (fin s (suc m) e)) w.3
    ∙ ap (λ (b : ℕ). sum f s (suc m * up e * down d) w.0 b (down e * down d)) (none (w.1 * up d) (down e) w.4)
    ∙ nothing_more f s w.0 (suc m * up e * down d) (down e * down d) (mul-pos (mul-pos (zero-lt-suc m) (up_pos e)) (down_pos d))
    ∙ round_itself f s (suc m) e (suc m * up e * down d) (down e * down d) t (mul-pos (down_pos e) (down_pos d)) (turn (suc m * up e) (down e) (down d))
  where
    none : (N d : ℕ) → N ≡ 0 → N * d ≡ 0
    none N d h = rw h (omega arith)

    turn : (M d c : ℕ) → M * c * d ≡ M * (d * c)
    turn M d c = omega arith

pub add_nought : (f : Format) (x : Float) (z : Bool) → T (fits f x) → T (nonzero x) → add f x (nought z) ≡ x
unfolding eq of_bits
add_nought f x false t n = add_zero f x (nought false) t n refl
add_nought f x true t n = add_zero f x (nought true) t n refl

pub nought_add : (f : Format) (z : Bool) (x : Float) → T (fits f x) → T (nonzero x) → add f (nought z) x ≡ x
unfolding add
nought_add f z nan t n = absurd n
nought_add f z (inf s) t n = absurd n
nought_add f z (fin s zero e) t n = absurd n
nought_add f z (fin s (suc m) e) t n =
    ap (λ (b : ℕ). sum f z b s (suc m * up e * 1) (1 * down e)) (none (down e))
    ∙ more_than_nothing f z s (suc m * up e * 1) (1 * down e) (mul-pos (mul-pos (zero-lt-suc m) (up_pos e)) (zero-lt-suc 0))
    ∙ round_itself f s (suc m) e (suc m * up e * 1) (1 * down e) t (mul-pos (zero-lt-suc 0) (down_pos e)) (turn (suc m * up e) (down e))
  where
    none : (d : ℕ) → 0 * 1 * d ≡ 0
    none d = omega arith

    turn : (M d : ℕ) → M * 1 * d ≡ M * (1 * d)
    turn M d = omega arith

-- ---- x · 1, x / x, and zeros in a product or a quotient
one_is : one ≡ fin false 1 (pos 0)
unfolding of_bits
one_is = refl

like : (s : Bool) → unlike s s ≡ false
like false = refl
like true = refl

pub unlike_plus : (s : Bool) → unlike s false ≡ s
unlike_plus false = refl
unlike_plus true = refl

not_none : (m : ℕ) → eqb (suc m) 0 ≡ false
not_none m = ne_eqb (suc m) 0 (λ h. omega arith)

pub mul_one : (x : Float) → T (fits binary64 x) → T (finite x) → mul binary64 x one ≡ x
unfolding mul
mul_one nan t h = absurd h
mul_one (inf s) t h = absurd h
mul_one (fin s m e) t h =
    ap (mul binary64 (fin s m e)) one_is
    ∙ ap (λ (b : Bool). round binary64 b (m * up e * (1 * 1)) (down e * 1)) (unlike_plus s)
    ∙ round_itself binary64 s m e (m * up e * (1 * 1)) (down e * 1) t (mul-pos (down_pos e) (zero-lt-suc 0)) (turn (m * up e) (down e))
  where
    turn : (M d : ℕ) → M * (1 * 1) * d ≡ M * (d * 1)
    turn M d = omega arith

-- the same of every number, NaN and the infinities among them
pub times_one : (x : Float) → T (fits binary64 x) → mul binary64 x one ≡ x
unfolding mul
times_one nan t = refl
times_one (inf s) t = ap (mul binary64 (inf s)) one_is ∙ ap inf (unlike_plus s)
times_one (fin s m e) t = mul_one (fin s m e) t tt

pub div_itself : (x : Float) → T (nonzero x) → div binary64 x x ≡ one
unfolding div fits
div_itself nan n = absurd n
div_itself (inf s) n = absurd n
div_itself (fin s zero e) n = absurd n
div_itself (fin s (suc m) e) n =
    rw (not_none m) (ap (λ (b : Bool). round binary64 b (suc m * up e * down e) (suc m * up e * down e)) (like s)
    ∙ round_itself binary64 false 1 (pos 0) (suc m * up e * down e) (suc m * up e * down e) tt (mul-pos (mul-pos (zero-lt-suc m) (up_pos e)) (down_pos e)) (turn (suc m * up e * down e))
    ∙ sym one_is)
  where
    turn : (M : ℕ) → M * 1 ≡ 1 * 1 * M
    turn M = omega arith

pub mul_nought : (f : Format) (x : Float) (z : Bool) → T (finite x) → (u : Bool) × (mul f x (nought z) ≡ nought u)
unfolding mul
mul_nought f nan z h = absurd h
mul_nought f (inf s) z h = absurd h
mul_nought f (fin s m e) z h = (unlike s z, ap (λ (n : ℕ). round f (unlike s z) n (down e * 1)) (none (m * up e)) ∙ round_nothing f (unlike s z) (down e * 1) (mul-pos (down_pos e) (zero-lt-suc 0)))
  where
    none : (M : ℕ) → M * (0 * 1) ≡ 0
    none M = omega arith

pub nought_over : (f : Format) (z : Bool) (x : Float) → T (nonzero x) → (u : Bool) × (div f (nought z) x ≡ nought u)
unfolding div
nought_over f z nan n = absurd n
nought_over f z (inf s) n = absurd n
nought_over f z (fin s zero e) n = absurd n
nought_over f z (fin s (suc m) e) n = (unlike z s, rw (not_none m) (ap (λ (n : ℕ). round f (unlike z s) n (suc m * up e * 1)) (none (down e)) ∙ round_nothing f (unlike z s) (suc m * up e * 1) (mul-pos (mul-pos (zero-lt-suc m) (up_pos e)) (zero-lt-suc 0))))
  where
    none : (d : ℕ) → 0 * 1 * d ≡ 0
    none d = omega arith
