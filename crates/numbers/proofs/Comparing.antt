-- The order of floats, of either sign and with infinities: it goes through a third number, and of two numbers one is below the other or it is at or above it. A NaN is neither. Assumes nothing.
use Rattle.std.proofs.Common.{◌≡◌, ℕ, zero, suc, ◌+◌, ◌*◌, ◌<◌, ◌≤◌, Bool, true, false, not, ◌&&◌, ◌||◌, eqb, ltb, sym, refl, ap, ◌∙◌, mul-le-mul_right, le_of_mul-le-mul_right, arith, ltb-false, ltb-true, le-ltb, lt-ltb, eq-eqb, ne_eqb}
use mathlib.Core.Bool.{beq}
use lib.Ieee.{Float, nan, inf, fin, up, down, below, level, lt, le, eq, of_bits}
use lib.Ieee.Fits.{down_pos}
use lib.Ieee.Scale.{finite}
use Rattle.numbers.specs.Clamps.{plus_zero}
use borrow.Author.Tests.{not-true}

pub clash : {Goal : Type 0} → false ≡ true → Goal
clash e = absurd (let z : ◌≡◌ {A = ℕ} 0 1 = cc in omega arith)

-- ---- ±a at or below ±b, as sizes over one denominator: ±b is not below ±a
abbrev pub AtMost : Bool → ℕ → Bool → ℕ → Type 0
AtMost false a false b = a ≤ b
AtMost false a true b = a + b ≡ 0
AtMost true a false b = 0 ≤ b
AtMost true a true b = b ≤ a

told : (s t : Bool) (a b : ℕ) → below t b s a ≡ false → AtMost s a t b
told false false a b h = ltb-false b a h
told false true a b h = let l = ltb-false 0 (b + a) h in omega arith
told true false a b h = omega arith
told true true a b h = ltb-false a b h

shown : (s t : Bool) (a b : ℕ) → AtMost s a t b → below t b s a ≡ false
shown false false a b h = le-ltb b a h
shown false true a b h = le-ltb 0 (b + a) (omega arith)
shown true false a b h = refl
shown true true a b h = le-ltb a b h

-- ---- three fractions x/d, y/e and z/f
no_size : (x e : ℕ) → 0 < e → x * e ≤ 0 → x ≤ 0
no_size x e p h = le_of_mul-le-mul_right {k = e} (omega arith) p

no_part : (x e a : ℕ) → 0 < e → x * e + a ≡ 0 → x ≤ 0
no_part x e a p h = no_size x e p (omega arith)

none_times : (x f : ℕ) → x ≤ 0 → x * f ≤ 0
none_times x f h = omega (arith, mul-le-mul_right f h)

module _ (x y z d e f : ℕ) (d⁺ : 0 < d) (e⁺ : 0 < e) (f⁺ : 0 < f) where
  through : (s t u : Bool) → AtMost s (x * e) t (y * d) → AtMost t (y * f) u (z * e) → AtMost s (x * f) u (z * d)
  through false false false h g = le_of_mul-le-mul_right {k = e} (omega (arith, mul-le-mul_right f h, mul-le-mul_right d g)) e⁺
  through false false true h g =
      let y⁰ = no_part y f (z * e) f⁺ g in
      let z⁰ = no_size z e e⁺ (omega arith) in
      let x⁰ = no_size x e e⁺ (omega (arith, none_times y d y⁰)) in
      omega (arith, none_times x f x⁰, none_times z d z⁰)
  through false true false h g = let x⁰ = no_part x e (y * d) e⁺ h in omega (arith, none_times x f x⁰)
  through false true true h g =
      let x⁰ = no_part x e (y * d) e⁺ h in
      let y⁰ = no_size y d d⁺ (omega arith) in
      let z⁰ = no_size z e e⁺ (omega (arith, none_times y f y⁰)) in
      omega (arith, none_times x f x⁰, none_times z d z⁰)
  through true false false h g = omega arith
  through true false true h g = let z⁰ = no_size z e e⁺ (omega arith) in omega (arith, none_times z d z⁰)
  through true true false h g = omega arith
  through true true true h g = le_of_mul-le-mul_right {k = e} (omega (arith, mul-le-mul_right f h, mul-le-mul_right d g)) e⁺

-- ---- what is no NaN
abbrev pub Real : Float → Type 0
Real nan = ⊥
Real (inf s) = Unit
Real (fin s m e) = Unit

pub finite_real : (x : Float) → finite x ≡ true → Real x
finite_real nan h = clash h
finite_real (inf s) h = tt
finite_real (fin s m e) h = tt

-- what is compared is no NaN
pub first_real : (x y : Float) → le x y ≡ true → Real x
unfolding le lt eq
first_real nan y h = clash h
first_real (inf s) y h = tt
first_real (fin s m e) y h = tt

pub second_real : (x y : Float) → le x y ≡ true → Real y
unfolding le lt eq
second_real nan y h = clash h
second_real (inf s) nan h = clash h
second_real (inf s) (inf t) h = tt
second_real (inf s) (fin t n d) h = tt
second_real (fin s m e) nan h = clash h
second_real (fin s m e) (inf t) h = tt
second_real (fin s m e) (fin t n d) h = tt

-- ---- z is not below y, and y is not below x
not_below_through : (z y x : Float) → Real y → lt z y ≡ false → lt y x ≡ false → lt z x ≡ false
unfolding lt
not_below_through nan y x r h k = refl
not_below_through (inf false) y nan r h k = refl
not_below_through (inf false) y (inf s) r h k = refl
not_below_through (inf false) y (fin s m e) r h k = refl
not_below_through (inf true) nan x r h k = absurd r
not_below_through (inf true) (inf true) x r h k = k
not_below_through (inf true) (inf false) x r h k = clash (sym h)
not_below_through (inf true) (fin t n d) x r h k = clash (sym h)
not_below_through (fin u i g) nan x r h k = absurd r
not_below_through (fin u i g) (inf false) x r h k = clash (sym h)
not_below_through (fin u i g) (inf true) nan r h k = refl
not_below_through (fin u i g) (inf true) (inf s) r h k = k
not_below_through (fin u i g) (inf true) (fin s m e) r h k = clash (sym k)
not_below_through (fin u i g) (fin t n d) nan r h k = refl
not_below_through (fin u i g) (fin t n d) (inf s) r h k = k
not_below_through (fin u i g) (fin t n d) (fin s m e) r h k =
    shown s u _ _
    (through (m * up e) (n * up d) (i * up g) (down e) (down d) (down g) (down_pos e) (down_pos d) (down_pos g) s t u
    (told s t _ _ k) (told t u _ _ h))

-- ---- at or below is not above, of two numbers
data Which (a b : ℕ) : Type 0 where
  less : a < b → Which a b
  same : a ≡ b → Which a b
  over : b < a → Which a b

which : (a b : ℕ) → Which a b
which a b = go (ltb a b) (ltb b a) (ltb-true a b) (ltb-true b a) (ltb-false a b) (ltb-false b a)
  where
    go : (s t : Bool) → (s ≡ true → a < b) → (t ≡ true → b < a) → (s ≡ false → b ≤ a) → (t ≡ false → a ≤ b) → Which a b
    go true t h k i j = less (h refl)
    go false true h k i j = over (k refl)
    go false false h k i j = same (let l = i refl in let r = j refl in omega arith)

weak : {a b : ℕ} → a < b → a ≤ b
weak h = omega arith

even : {a b : ℕ} → a ≡ b → a ≤ b
even e = omega arith

apart : {a b : ℕ} → a < b → a ≡ b → ⊥
apart h e = omega arith

-- e says whether they are equal
alike : (A B : ℕ) (e : Bool) → (A ≡ B → e ≡ true) → ((A ≡ B → ⊥) → e ≡ false) → Which A B → (ltb A B || (e && true)) ≡ not (ltb B A)
alike A B e equal other (less h) = rw (lt-ltb A B h, le-ltb B A (weak h))
alike A B e equal other (same h) = rw (le-ltb A B (even (sym h)), equal h, le-ltb B A (even h))
alike A B e equal other (over h) = rw (le-ltb A B (weak h), other (λ z. apart h (sym z)), lt-ltb B A h)

unlike_signs : (A B : ℕ) → (eqb A B && eqb A 0) ≡ not (ltb 0 (B + A))
unlike_signs zero zero = refl
unlike_signs zero (suc b) = rw (lt-ltb 0 (suc b + 0) (omega arith), ne_eqb 0 (suc b) (λ z. omega arith))
unlike_signs (suc a) b = rw (lt-ltb 0 (b + suc a) (omega arith), ne_eqb (suc a) 0 (λ z. omega arith)) (none (eqb (suc a) b))
  where
    none : (t : Bool) → (t && false) ≡ false
    none true = refl
    none false = refl

below_or_level : (s t : Bool) (A B : ℕ) → (below s A t B || level s A t B) ≡ not (below t B s A)
below_or_level false false A B = alike A B (eqb A B) (eq-eqb A B) (ne_eqb A B) (which A B)
below_or_level false true A B = unlike_signs A B
below_or_level true false A B = one_of (ltb 0 (A + B)) _ (λ h. unlike_signs A B ∙ ap not (ap (ltb 0) (sum_either B A) ∙ h))
  where
    sum_either : (a b : ℕ) → a + b ≡ b + a
    sum_either a b = omega arith

    one_of : (s t : Bool) → (s ≡ false → t ≡ true) → (s || t) ≡ true
    one_of true t h = refl
    one_of false t h = h refl
below_or_level true true A B = alike B A (eqb A B) (λ e. eq-eqb A B (sym e)) (λ n. ne_eqb A B (λ e. n (sym e))) (which B A)

le_is : (x y : Float) → Real x → Real y → le x y ≡ not (lt y x)
unfolding lt le eq
le_is nan y a b = absurd a
le_is (inf s) nan a b = absurd b
le_is (inf false) (inf false) a b = refl
le_is (inf false) (inf true) a b = refl
le_is (inf true) (inf false) a b = refl
le_is (inf true) (inf true) a b = refl
le_is (inf false) (fin t n d) a b = refl
le_is (inf true) (fin t n d) a b = refl
le_is (fin s m e) nan a b = absurd b
le_is (fin s m e) (inf false) a b = refl
le_is (fin s m e) (inf true) a b = refl
le_is (fin s m e) (fin t n d) a b = below_or_level s t (m * up e * down d) (n * up d * down e)

pub at_or_below_real : (x y : Float) → Real x → Real y → lt y x ≡ false → le x y ≡ true
at_or_below_real x y a b h = le_is x y a b ∙ ap not h

-- of two numbers, x is at or below y where y is not below x
pub at_or_below : (x y : Float) → finite x ≡ true → finite y ≡ true → lt y x ≡ false → le x y ≡ true
at_or_below x y a b h = at_or_below_real x y (finite_real x a) (finite_real y b) h

-- ---- the two tests, beside one another
pub lt_le : (x y : Float) → lt x y ≡ true → le x y ≡ true
unfolding le
lt_le x y h = rw h

pub eq_le : (x y : Float) → eq x y ≡ true → le x y ≡ true
unfolding le
eq_le x y h = rw h (or_true (lt x y))
  where
    or_true : (b : Bool) → (b || true) ≡ true
    or_true true = refl
    or_true false = refl

pub not_above_lem : (x y : Float) → le x y ≡ true → lt y x ≡ false
not_above_lem x y h = not-true _ (sym (le_is x y (first_real x y h) (second_real x y h)) ∙ h)

pub not_at_or_below : (x y : Float) → lt x y ≡ true → le y x ≡ false
not_at_or_below x y h = go (le y x) (not_above_lem y x)
  where
    go : (b : Bool) → (b ≡ true → lt x y ≡ false) → b ≡ false
    go false above = refl
    go true above = clash (sym (above refl) ∙ h)

-- what is at or below a number and at or above it is equal to it
pub equal_between : (x y : Float) → le x y ≡ true → le y x ≡ true → eq x y ≡ true
unfolding le
equal_between x y h k = go (lt x y) (eq x y) h (not_above_lem y x k)
  where
    go : (a b : Bool) → (a || b) ≡ true → a ≡ false → b ≡ true
    go true b p q = clash (sym q)
    go false b p q = p

-- ---- through a third
pub le_trans : (x y z : Float) → le x y ≡ true → le y z ≡ true → le x z ≡ true
le_trans x y z h k =
    at_or_below_real x z (first_real x y h) (second_real y z k) (not_below_through z y x (first_real y z k) (not_above_lem y z k) (not_above_lem x y h))

pub le_lt_trans : (x y z : Float) → le x y ≡ true → lt y z ≡ true → le x z ≡ true
le_lt_trans x y z h k = le_trans x y z h (lt_le y z k)

pub lt_trans : (x y z : Float) → lt x y ≡ true → lt y z ≡ true → lt x z ≡ true
lt_trans x y z h k = go (lt x z) refl
  where
    go : (b : Bool) → lt x z ≡ b → b ≡ true
    go true e = refl
    go false e = sym (not_below_through x z y (second_real y z (lt_le y z k)) e (not_above_lem y z (lt_le y z k))) ∙ h

-- what is later than one beyond a knot is beyond it too
pub still_beyond : (earlier later knot : Float) → le earlier later ≡ true → le earlier knot ≡ false → le later knot ≡ false
still_beyond earlier later knot h g = go (le later knot) (le_trans earlier later knot h)
  where
    go : (b : Bool) → (b ≡ true → le earlier knot ≡ true) → b ≡ false
    go false on = refl
    go true on = clash (sym g ∙ on refl)

-- ---- a number beside itself
below_itself : (s : Bool) (A : ℕ) → below s A s A ≡ false
below_itself false A = le-ltb A A (even refl)
below_itself true A = le-ltb A A (even refl)

pub lt_itself : (x : Float) → lt x x ≡ false
unfolding lt
lt_itself nan = refl
lt_itself (inf false) = refl
lt_itself (inf true) = refl
lt_itself (fin s m e) = below_itself s (m * up e * down e)

pub le_itself : (x : Float) → finite x ≡ true → le x x ≡ true
le_itself x h = at_or_below x x h h (lt_itself x)

level_itself : (s : Bool) (A : ℕ) → (beq s s || eqb A 0) ≡ true
level_itself false A = refl
level_itself true A = refl

pub eq_itself : (x : Float) → finite x ≡ true → eq x x ≡ true
unfolding eq
eq_itself nan h = clash h
eq_itself (inf s) h = clash h
eq_itself (fin s m e) h = rw (eq-eqb (m * up e * down e) (m * up e * down e) refl) (level_itself s (m * up e * down e))

-- what is at or below anything is at or below itself
pub compared_itself : (x y : Float) → le x y ≡ true → le x x ≡ true
compared_itself x y h = at_or_below_real x x (first_real x y h) (first_real x y h) (lt_itself x)

-- ---- finite numbers and infinities
pub above_minus_infinity : (x : Float) → finite x ≡ true → lt (inf true) x ≡ true
unfolding lt
above_minus_infinity nan h = h
above_minus_infinity (inf s) h = clash h
above_minus_infinity (fin s m e) h = refl

-- what is not below zero, and below something, is finite
pub finite_between : (x y : Float) → lt x plus_zero ≡ false → lt x y ≡ true → finite x ≡ true
unfolding lt of_bits
finite_between nan y h k = clash k
finite_between (inf true) y h k = clash (sym h)
finite_between (inf false) nan h k = clash k
finite_between (inf false) (inf t) h k = clash k
finite_between (inf false) (fin t n d) h k = clash k
finite_between (fin s m e) y h k = refl

-- what lies between two finite numbers is finite
pub finite_within : (x y z : Float) → finite x ≡ true → finite z ≡ true → le x y ≡ true → le y z ≡ true → finite y ≡ true
unfolding le lt eq
finite_within x nan z h g k l = l
finite_within x (inf false) nan h g k l = l
finite_within x (inf false) (inf t) h g k l = g
finite_within x (inf false) (fin t n d) h g k l = l
finite_within nan (inf true) z h g k l = h
finite_within (inf s) (inf true) z h g k l = h
finite_within (fin s m e) (inf true) z h g k l = k
finite_within x (fin t n d) z h g k l = refl
