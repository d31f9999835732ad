-- Order: `lt`, `le` and `eq` of two amounts are `<`, `≤` and `≡` of their counts, and the tests of a program that make an amount. Assumes nothing.
use Rattle.std.proofs.Common.{◌≡◌, ℕ, zero, suc, ◌+◌, ◌*◌, ◌^◌, ◌<◌, ◌≤◌, Bool, true, false, ◌||◌, T, eqb, ◌⊎◌, ◌↔◌, ℤ, refl, ap, ◌∙◌, inl, inr, le_of_eq, le_of_lt, mul-le-mul_right, lt_of_mul-lt-mul_right, eq-or-lt_of_le, mul-lt-mul_of_pos_right, mul-pos, le_of_mul-le-mul_right, arith, eqb→eq, ltb→lt, lt→ltb, pow_pos, ltb-false}
use mathlib.Core.Bool.{beq}
use native.Mathlib.Nat.{eq_of_mul-eq-mul_right}
use lib.Dec.{not_T}
use lib.Ieee.{Float, nan, inf, fin, Format, binary32, binary64, low, up, down, below, level, lt, le, eq, fits, of_bits}
use lib.Ieee.Bits.{is_false}
use lib.Ieee.Fits.{up_pos, down_pos, and_i, and_l, eq→eqb}
use lib.Ieee.Scale.{finite}
use Rattle.numbers.specs.Clamps.{plus_zero}
use Rattle.numbers.specs.Units.{count}
use Rattle.numbers.proofs.Amounts.{passes, amount, Counts, counts}

-- ---- two fractions over one denominator D, and their counts in units of 1 / L
pub record Common (X Y a b L D : ℕ) : Type 0 where
  pub unit : 0 < L
  pub denominator : 0 < D
  pub first : X * L ≡ a * D
  pub second : Y * L ≡ b * D

module _ (X Y a b L D : ℕ) (c : Common X Y a b L D) where
  same_less : (X < Y) ↔ (a < b)
  same_less = (
    λ (g : X < Y). lt_of_mul-lt-mul_right D (omega (arith, mul-lt-mul_of_pos_right g c.unit)),
    λ (g : a < b). lt_of_mul-lt-mul_right L (omega (arith, mul-lt-mul_of_pos_right g c.denominator)),
  )

  same_level : (X ≡ Y) ↔ (a ≡ b)
  same_level = (
    λ (g : X ≡ Y). eq_of_mul-eq-mul_right D c.denominator a b (omega (arith, ap (λ (z : ℕ). z * L) g)),
    λ (g : a ≡ b). eq_of_mul-eq-mul_right L c.unit X Y (omega (arith, ap (λ (z : ℕ). z * D) g)),
  )

  pub no_more : b ≤ a → Y ≤ X
  no_more g = le_of_mul-le-mul_right {k = L} (omega (arith, mul-le-mul_right D g)) c.unit

module _ (f : Format) (s : Bool) (m : ℕ) (e : ℤ) (t : Bool) (n : ℕ) (d : ℤ) (a b : ℕ) (p : Counts f (fin s m e) a) (q : Counts f (fin t n d) b) where
  pub common : Common (m * up e * down d) (n * up d * down e) a b (2 ^ low f) (down e * down d)
  common =
      record {
        unit = pow_pos (low f);
        denominator = mul-pos (down_pos e) (down_pos d);
        first = over (m * up e) (2 ^ low f) a (down e) (down d) p.1;
        second = over (n * up d) (2 ^ low f) b (down d) (down e) q.1 ∙ turn b (down d) (down e);
      }
    where
      over : (x l a d c : ℕ) → x * l ≡ a * d → x * c * l ≡ a * (d * c)
      over x l a d c h = omega (arith, ap (λ (z : ℕ). z * c) h)

      turn : (a d c : ℕ) → a * (d * c) ≡ a * (c * d)
      turn a d c = omega arith

pub nothing_times : (m u d : ℕ) → m ≡ 0 → m * u * d ≡ 0
nothing_times m u d z = rw z (omega arith)

-- ---- comparing by sign and size, where a negative one is 0
below_is : (s t : Bool) (X Y : ℕ) → (T s → X ≡ 0) → (T t → Y ≡ 0) → T (below s X t Y) ↔ (X < Y)
below_is false false X Y p q = (ltb→lt X Y, lt→ltb X Y)
below_is false true X Y p q = (λ t. absurd t, λ (g : X < Y). absurd (none (q tt) g))
  where
    none : Y ≡ 0 → X < Y → ⊥
    none z g = omega arith
below_is true false X Y p q = (λ t. some (p tt) (ltb→lt 0 (X + Y) t), λ (g : X < Y). lt→ltb 0 (X + Y) (omega arith))
  where
    some : X ≡ 0 → 0 < X + Y → X < Y
    some z g = omega arith
below_is true true X Y p q = (λ t. absurd (none (p tt) (ltb→lt Y X t)), λ (g : X < Y). absurd (none' (q tt) g))
  where
    none : X ≡ 0 → Y < X → ⊥
    none z g = omega arith

    none' : Y ≡ 0 → X < Y → ⊥
    none' z g = omega arith

level_is : (s t : Bool) (X Y : ℕ) → (T s → X ≡ 0) → (T t → Y ≡ 0) → T (level s X t Y) ↔ (X ≡ Y)
level_is s t X Y p q = (
  λ u. eqb→eq X Y (and_l (eqb X Y) (beq s t || eqb X 0) u),
  λ (g : X ≡ Y). and_i (eqb X Y) (beq s t || eqb X 0) (eq→eqb g) (signs s t p q g),
)
  where
    signs : (s t : Bool) → (T s → X ≡ 0) → (T t → Y ≡ 0) → X ≡ Y → T (beq s t || eqb X 0)
    signs false false p q e = tt
    signs true true p q e = tt
    signs false true p q e = eq→eqb (e ∙ q tt)
    signs true false p q e = eq→eqb (p tt)

-- ---- lt, eq and le by the counts a and b
both : {A B C : Type 0} → A ↔ B → B ↔ C → A ↔ C
both p q = (λ a. q.0 (p.0 a), λ c. p.1 (q.1 c))

lt_counts : (f : Format) (x y : Float) (a b : ℕ) → Counts f x a → Counts f y b → T (lt x y) ↔ (a < b)
unfolding lt
lt_counts f nan y a b p q = absurd p
lt_counts f (inf s) y a b p q = absurd p
lt_counts f (fin s m e) nan a b p q = absurd q
lt_counts f (fin s m e) (inf t) a b p q = absurd q
lt_counts f (fin s m e) (fin t n d) a b p q =
    both (below_is s t (m * up e * down d) (n * up d * down e) (λ (u : T s). nothing_times m (up e) (down d) (p.0 u)) (λ (u : T t). nothing_times n (up d) (down e) (q.0 u)))
    (same_less (m * up e * down d) (n * up d * down e) a b (2 ^ low f) (down e * down d) (common f s m e t n d a b p q))

eq_counts : (f : Format) (x y : Float) (a b : ℕ) → Counts f x a → Counts f y b → T (eq x y) ↔ (a ≡ b)
unfolding eq
eq_counts f nan y a b p q = absurd p
eq_counts f (inf s) y a b p q = absurd p
eq_counts f (fin s m e) nan a b p q = absurd q
eq_counts f (fin s m e) (inf t) a b p q = absurd q
eq_counts f (fin s m e) (fin t n d) a b p q =
    both (level_is s t (m * up e * down d) (n * up d * down e) (λ (u : T s). nothing_times m (up e) (down d) (p.0 u)) (λ (u : T t). nothing_times n (up d) (down e) (q.0 u)))
    (same_level (m * up e * down d) (n * up d * down e) a b (2 ^ low f) (down e * down d) (common f s m e t n d a b p q))

or_is : (a b : Bool) → T (a || b) ↔ (T a ⊎ T b)
or_is true b = (λ t. inl tt, λ t. tt)
or_is false b = (λ t. inr t, λ t. elim t [ inl u ↦ absurd u | inr u ↦ u ])

-- ---- of two amounts
module _ (f : Format) (x y : Float) (p : T (amount f x)) (q : T (amount f y)) where
  pub lt_amount : T (lt x y) ↔ (count f x < count f y)
  lt_amount = lt_counts f x y (count f x) (count f y) (counts f x p) (counts f y q)

  pub eq_amount : T (eq x y) ↔ (count f x ≡ count f y)
  eq_amount = eq_counts f x y (count f x) (count f y) (counts f x p) (counts f y q)

  pub le_amount : T (le x y) ↔ (count f x ≤ count f y)
  unfolding le
  le_amount = both (or_is (lt x y) (eq x y)) (
    λ t. elim t [ inl u ↦ le_of_lt (lt_amount.0 u) | inr u ↦ le_of_eq (eq_amount.0 u) ],
    λ (g : count f x ≤ count f y). elim (eq-or-lt_of_le g) [ inl u ↦ inr (eq_amount.1 u) | inr u ↦ inl (lt_amount.1 u) ],
  )

-- ---- zero, and the tests that make an amount
pub zero_amount : (f : Format) → T (amount f plus_zero)
unfolding amount fits of_bits
zero_amount f = tt

pub zero_count : (f : Format) → count f plus_zero ≡ 0
unfolding count of_bits
zero_count binary32 = refl
zero_count binary64 = refl

pub amount_not_below : (f : Format) (x : Float) → T (amount f x) → lt x plus_zero ≡ false
amount_not_below f x t = is_false (lt x plus_zero) (not_T (lt x plus_zero) (λ (u : T (lt x plus_zero)). none (zero_count f) ((lt_amount f x plus_zero t (zero_amount f)).0 u)))
  where
    none : {a b : ℕ} → b ≡ 0 → a < b → ⊥
    none z g = omega arith

pub amount_by_tests : (f : Format) (x : Float) → fits f x ≡ true → finite x ≡ true → lt x plus_zero ≡ false → T (amount f x)
unfolding lt amount of_bits
amount_by_tests f nan t u v = absurd (passes u)
amount_by_tests f (inf s) t u v = absurd (passes u)
amount_by_tests f (fin false m e) t u v = passes t
amount_by_tests f (fin true m e) t u v = and_i (eqb m 0) (fits f (fin true m e)) (eq→eqb (nothing m (up e) (0 * 1 * down e) (up_pos e) (ltb-false 0 (m * up e * 1 + 0 * 1 * down e) v))) (passes t)
  where
    nothing : (m u b : ℕ) → 0 < u → m * u * 1 + b ≤ 0 → m ≡ 0
    nothing zero u b h l = refl
    nothing (suc m) u b h l = absurd (omega arith)

-- what is above an amount is an amount or +infinity
pub above_amount : (f : Format) (x y : Float) → T (amount f y) → T (fits f x) → T (lt y x) → T (amount f x) ⊎ (x ≡ inf false)
unfolding lt amount
above_amount f x nan p t l = absurd p
above_amount f x (inf s) p t l = absurd p
above_amount f nan (fin s n d) p t l = absurd l
above_amount f (inf true) (fin s n d) p t l = absurd l
above_amount f (inf false) (fin s n d) p t l = inr refl
above_amount f (fin false m e) (fin s n d) p t l = inl t
above_amount f (fin true m e) (fin false n d) p t l = absurd l
above_amount f (fin true m e) (fin true n d) p t l = absurd (none (nothing_times n (up d) (down e) ((counts f (fin true n d) p).0 tt)) (ltb→lt (m * up e * down d) (n * up d * down e) l))
  where
    none : {a b : ℕ} → b ≡ 0 → a < b → ⊥
    none z g = omega arith

pub none_above_infinity : (x : Float) → T (lt (inf false) x) → ⊥
unfolding lt
none_above_infinity nan t = t
none_above_infinity (inf s) t = t
none_above_infinity (fin s m e) t = t
