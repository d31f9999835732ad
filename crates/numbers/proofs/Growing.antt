-- Rounding keeps the order of fractions of either sign; so a finite number that its format holds is at or below its sum with an amount, and at or above its difference with one, infinite or not;
-- and a product of two numbers that are 1 or more is no less than the first. Assumes nothing.
use Rattle.std.proofs.Common.{◌≡◌, ℕ, zero, suc, ◌+◌, ◌-◌, ◌*◌, ◌^◌, ◌<◌, ◌≤◌, Bool, true, false, cond, not, ◌&&◌, T, eqb, ltb, ℤ, pos, sym, refl, ap, ◌∙◌, mul-le-mul_right, mul_comm, mul-pos, arith, ltb-false, ltb-true, ne_eqb}
use lib.Ieee.{Float, nan, inf, fin, Format, prec, emax, low, up, down, unlike, odd, units, round, neg, sum, add, sub, mul, below, lt, le, eq, fits, of_bits}
use lib.Ieee.Bits.{is_true}
use lib.Ieee.Fits.{down_pos, round_is}
use lib.Ieee.Order.{round_mono, drop, kept}
use lib.Ieee.Scale.{finite}
use Rattle.numbers.specs.Literals.{one}
use Rattle.numbers.proofs.Amounts.{passes, amount, counts}
use Rattle.numbers.proofs.Order.{nothing_times}
use Rattle.numbers.proofs.Zeros.{round_nothing}
use Rattle.numbers.proofs.Values.{round_itself}
use Rattle.numbers.proofs.Comparing.{clash, AtMost, Real, first_real, second_real, at_or_below_real, not_above_lem, le_trans}

-- ---- a fraction below zero is rounded as its size is
odd_turned : (d q k l : ℕ) → odd d true q k l ≡ neg (odd d false q k l)
unfolding odd neg
odd_turned d zero k l = refl
odd_turned d (suc q) k l = refl

units_turned : (f : Format) (q k : ℕ) → units f true q k ≡ neg (units f false q k)
unfolding units
units_turned f q k = go (ltb (q * 2 ^ k) (2 ^ (low f + suc (emax f))))
  where
    go : (b : Bool) → cond b (odd (suc (prec f)) true q k (low f)) (inf true) ≡ neg (cond b (odd (suc (prec f)) false q k (low f)) (inf false))
    go true = odd_turned (suc (prec f)) q k (low f)
    go false = unfold neg in refl

round_turned : (f : Format) (a c : ℕ) → round f true a c ≡ neg (round f false a c)
round_turned f a c =
    round_is f true a c
    ∙ units_turned f (kept (prec f) (a * 2 ^ low f) c) (drop (prec f) (a * 2 ^ low f) c)
    ∙ ap neg (sym (round_is f false a c))

-- ---- the other sign turns the order
below_turned : (s t : Bool) (A B : ℕ) → below (not s) A (not t) B ≡ below t B s A
below_turned false false A B = refl
below_turned false true A B = ap (ltb 0) (either A B)
  where
    either : (a b : ℕ) → a + b ≡ b + a
    either a b = omega arith
below_turned true false A B = refl
below_turned true true A B = refl

lt_turned : (x y : Float) → lt (neg x) (neg y) ≡ lt y x
unfolding lt neg
lt_turned nan nan = refl
lt_turned nan (inf t) = refl
lt_turned nan (fin t n d) = refl
lt_turned (inf s) nan = refl
lt_turned (inf false) (inf false) = refl
lt_turned (inf false) (inf true) = refl
lt_turned (inf true) (inf false) = refl
lt_turned (inf true) (inf true) = refl
lt_turned (inf s) (fin t n d) = refl
lt_turned (fin s m e) nan = refl
lt_turned (fin s m e) (inf false) = refl
lt_turned (fin s m e) (inf true) = refl
lt_turned (fin s m e) (fin t n d) = below_turned s t (m * up e * down d) (n * up d * down e)

real_turned : (x : Float) → Real x → Real (neg x)
unfolding neg
real_turned nan r = r
real_turned (inf s) r = tt
real_turned (fin s m e) r = tt

le_turned : (x y : Float) → le x y ≡ true → le (neg y) (neg x) ≡ true
le_turned x y h =
    at_or_below_real (neg y) (neg x) (real_turned y (second_real x y h)) (real_turned x (first_real x y h))
    (lt_turned x y ∙ not_above_lem x y h)

-- ---- rounding keeps the order
zeros : (s t : Bool) → le (fin s 0 (pos 0)) (fin t 0 (pos 0)) ≡ true
unfolding le lt
zeros false false = refl
zeros false true = refl
zeros true false = refl
zeros true true = refl

module _ (f : Format) (c : ℕ) (C : 0 < c) where
  plus_order : (a b : ℕ) → a ≤ b → le (round f false a c) (round f false b c) ≡ true
  plus_order a b h = is_true (le (round f false a c) (round f false b c)) (round_mono f a c b c C C (mul-le-mul_right c h))

  minus_order : (a b : ℕ) → b ≤ a → le (round f true a c) (round f true b c) ≡ true
  minus_order a b h = rw (round_turned f a c, round_turned f b c) (le_turned (round f false b c) (round f false a c) (plus_order b a h))

  zero_order : (s t : Bool) → le (round f s 0 c) (round f t 0 c) ≡ true
  zero_order s t = rw (round_nothing f s c C, round_nothing f t c C) (zeros s t)

  pub round_order : (s t : Bool) (a b : ℕ) → AtMost s a t b → le (round f s a c) (round f t b c) ≡ true
  round_order false false a b h = plus_order a b h
  round_order false true a b h = both a b (omega arith) (omega arith)
    where
      both : (a b : ℕ) → a ≡ 0 → b ≡ 0 → le (round f false a c) (round f true b c) ≡ true
      both a b p q = rw (p, q) (zero_order false true)
  round_order true false a b h =
      le_trans (round f true a c) (round f true 0 c) (round f false b c) (minus_order a 0 (omega arith))
      (le_trans (round f true 0 c) (round f false 0 c) (round f false b c) (zero_order true false) (plus_order 0 b (omega arith)))
  round_order true true a b h = minus_order a b h

-- ---- the exact sum of ±a and ±b, as a fraction with a sign
module _ (f : Format) (a b c : ℕ) where
  nothing_below : {x y : ℕ} → y ≡ 0 → x < y → ⊥
  nothing_below z h = omega arith

  -- with a b that is not below zero
  sum_above : (s t : Bool) → (T t → b ≡ 0) → (u : Bool) × (n : ℕ) × (sum f s a t b c ≡ round f u n c) × AtMost s a u n
  unfolding sum
  sum_above false false z = (false, a + b, refl, omega arith)
  sum_above true true z = (true, a + b, refl, (let n = z tt in omega arith))
  sum_above false true z = go (ltb a b) (ltb-true a b)
    where
      go : (p : Bool) → (p ≡ true → a < b) → (u : Bool) × (n : ℕ) × (cond p (round f true (b - a) c) (round f false (a - b) c) ≡ round f u n c) × AtMost false a u n
      go true h = absurd (nothing_below (z tt) (h refl))
      go false h = (false, a - b, refl, (let n = z tt in omega arith))
  sum_above true false z = go (ltb a b) (ltb b a) (ltb-false a b) (ltb-false b a)
    where
      go : (p q : Bool) → (p ≡ false → b ≤ a) → (q ≡ false → a ≤ b)
          → (u : Bool) × (n : ℕ) × (cond p (round f false (b - a) c) (round f (true && q) (a - b) c) ≡ round f u n c) × AtMost true a u n
      go true q h g = (false, b - a, refl, omega arith)
      go false true h g = (true, a - b, refl, omega arith)
      go false false h g = (false, a - b, refl, omega arith)

  -- with a b that is not above zero
  sum_below : (s t : Bool) → (T (not t) → b ≡ 0) → (u : Bool) × (n : ℕ) × (sum f s a t b c ≡ round f u n c) × AtMost u n s a
  unfolding sum
  sum_below false false z = (false, a + b, refl, (let n = z tt in omega arith))
  sum_below true true z = (true, a + b, refl, omega arith)
  sum_below false true z = go (ltb a b) (ltb-false a b)
    where
      go : (p : Bool) → (p ≡ false → b ≤ a) → (u : Bool) × (n : ℕ) × (cond p (round f true (b - a) c) (round f false (a - b) c) ≡ round f u n c) × AtMost u n false a
      go true h = (true, b - a, refl, omega arith)
      go false h = (false, a - b, refl, omega arith)
  sum_below true false z = go (ltb a b) (ltb b a) (ltb-true a b) (ltb-false b a)
    where
      go : (p q : Bool) → (p ≡ true → a < b) → (q ≡ false → a ≤ b)
          → (u : Bool) × (n : ℕ) × (cond p (round f false (b - a) c) (round f (true && q) (a - b) c) ≡ round f u n c) × AtMost u n true a
      go true q h g = absurd (nothing_below (z tt) (h refl))
      go false true h g = (true, a - b, refl, (let n = z tt in omega arith))
      go false false h g = (false, a - b, refl, (let n = z tt in let l = g refl in omega arith))

-- ---- a finite number beside its sum and its difference with an amount
module _ (f : Format) (s : Bool) (m : ℕ) (e : ℤ) (fit : T (fits f (fin s m e))) (d : ℕ) (D : 0 < d) where
  -- it is its own fraction, over any multiple of its denominator
  itself : round f s (m * up e * d) (down e * d) ≡ fin s m e
  itself = round_itself f s m e (m * up e * d) (down e * d) fit (mul-pos (down_pos e) D) (turn (m * up e) (down e) d)
    where
      turn : (x y z : ℕ) → x * z * y ≡ x * (y * z)
      turn x y z = omega arith

between : {x y u v : Float} → u ≡ x → v ≡ y → le u v ≡ true → T (le x y)
between {x} {y} {u} {v} p q h = passes (sym (ap (λ (z : Float). le z v) p ∙ ap (le x) q) ∙ h)

pub sum_not_below : (f : Format) (x y : Float) → T (finite x) → T (fits f x) → T (amount f y) → T (le x (add f x y))
unfolding add
sum_not_below f nan y h t p = absurd h
sum_not_below f (inf s) y h t p = absurd h
sum_not_below f (fin s m e) nan h t p = absurd (counts f nan p)
sum_not_below f (fin s m e) (inf u) h t p = absurd (counts f (inf u) p)
sum_not_below f (fin s m e) (fin u n d) h t p =
    let a = m * up e * down d in
    let c = down e * down d in
    let w = sum_above f a (n * up d * down e) c s u (λ (g : T u). nothing_times n (up d) (down e) ((counts f (fin u n d) p).0 g)) in
    between (itself f s m e t (down d) (down_pos d)) (sym w.2) (round_order f c (mul-pos (down_pos e) (down_pos d)) s w.0 a w.1 w.3)

pub difference_not_above : (f : Format) (x y : Float) → T (finite x) → T (fits f x) → T (amount f y) → T (le (sub f x y) x)
unfolding sub
difference_not_above f nan y h t p = absurd h
difference_not_above f (inf s) y h t p = absurd h
difference_not_above f (fin s m e) nan h t p = absurd (counts f nan p)
difference_not_above f (fin s m e) (inf u) h t p = absurd (counts f (inf u) p)
difference_not_above f (fin s m e) (fin u n d) h t p =
    let a = m * up e * down d in
    let c = down e * down d in
    let w = sum_below f a (n * up d * down e) c s (not u) (λ (g : T (not (not u))). nothing_times n (up d) (down e) ((counts f (fin u n d) p).0 (twice u g))) in
    between (sym w.2) (itself f s m e t (down d) (down_pos d)) (round_order f c (mul-pos (down_pos e) (down_pos d)) w.0 s w.1 a w.3)
  where
    twice : (u : Bool) → T (not (not u)) → T u
    twice true g = g
    twice false g = g

-- ---- what is 1 or more: +infinity, or a fraction whose numerator is no less than its denominator
abbrev FromOne : Float → Type 0
FromOne nan = ⊥
FromOne (inf s) = s ≡ false
FromOne (fin s m e) = (s ≡ false) × (down e ≤ m * up e)

from_one : (x : Float) → le one x ≡ true → FromOne x
unfolding lt of_bits
from_one nan h = second_real one nan h
from_one (inf false) h = refl
from_one (inf true) h = clash (sym (not_above_lem one (inf true) h))
from_one (fin false m e) h = (refl, size (m * up e) (down e) (ltb-false (m * up e * 1) (1 * 1 * down e) (not_above_lem one (fin false m e) h)))
  where
    size : (M d : ℕ) → 1 * 1 * d ≤ M * 1 → d ≤ M
    size M d l = omega arith
from_one (fin true m e) h = absurd (none (m * up e) (down e) (down_pos e) (ltb-false 0 (m * up e * 1 + 1 * 1 * down e) (not_above_lem one (fin true m e) h)))
  where
    none : (M d : ℕ) → 0 < d → M * 1 + 1 * 1 * d ≤ 0 → ⊥
    none M d p l = omega arith

-- a numerator that is no less than its denominator is not 0
some_above : (m : ℕ) (e : ℤ) → down e ≤ m * up e → eqb m 0 ≡ false
some_above zero e l = absurd (none (up e) (down e) (down_pos e) l)
  where
    none : (u d : ℕ) → 0 < d → d ≤ 0 * u → ⊥
    none u d p l = omega arith
some_above (suc m) e l = ne_eqb (suc m) 0 (λ z. omega arith)

under_infinity : (x : Float) → FromOne x → le x (inf false) ≡ true
unfolding le lt eq
under_infinity nan h = absurd h
under_infinity (inf s) h = rw h
under_infinity (fin s m e) h = refl

grown : (f : Format) (x y : Float) → T (fits f x) → FromOne x → FromOne y → le x (mul f x y) ≡ true
unfolding mul
grown f nan y t p q = absurd p
grown f (inf s) nan t p q = absurd q
grown f (inf s) (inf u) t p q = rw (p, q) (under_infinity (inf false) refl)
grown f (inf s) (fin u n d) t p q = rw (p, q.0, some_above n d q.1) (under_infinity (inf false) refl)
grown f (fin s m e) nan t p q = absurd q
grown f (fin s m e) (inf u) t p q = rw (p.0, q, some_above m e p.1) (under_infinity (fin false m e) (refl, p.1))
grown f (fin s m e) (fin u n d) t p q = rw (p.0, q.0) (go (rw p.0 at t))
  where
    turn : (M N a b : ℕ) → b ≤ N → M * (a * b) ≤ M * N * a
    turn M N a b l = omega (arith, mul-le-mul_right (M * a) l)

    go : T (fits f (fin false m e)) → le (fin false m e) (round f false (m * up e * (n * up d)) (down e * down d)) ≡ true
    go w =
        let product = round f false (m * up e * (n * up d)) (down e * down d) in
        ap (λ (z : Float). le z product) (sym (round_itself f false m e (m * up e) (down e) w (down_pos e) refl))
        ∙ is_true (le (round f false (m * up e) (down e)) product)
        (round_mono f (m * up e) (down e) (m * up e * (n * up d)) (down e * down d) (down_pos e) (mul-pos (down_pos e) (down_pos d)) (turn (m * up e) (n * up d) (down e) (down d) q.1))

pub product_not_below : (f : Format) (x y : Float) → T (fits f x) → le one x ≡ true → le one y ≡ true → le x (mul f x y) ≡ true
product_not_below f x y t h g = grown f x y t (from_one x h) (from_one y g)

-- the factors of a product may be exchanged
unlike_turned : (s t : Bool) → unlike s t ≡ unlike t s
unlike_turned false false = refl
unlike_turned false true = refl
unlike_turned true false = refl
unlike_turned true true = refl

pub product_turned : (f : Format) (x y : Float) → mul f x y ≡ mul f y x
unfolding mul
product_turned f nan nan = refl
product_turned f nan (inf t) = refl
product_turned f nan (fin t n d) = refl
product_turned f (inf s) nan = refl
product_turned f (inf s) (inf t) = ap inf (unlike_turned s t)
product_turned f (inf s) (fin t n d) = ap (λ (b : Bool). cond (eqb n 0) nan (inf b)) (unlike_turned s t)
product_turned f (fin s m e) nan = refl
product_turned f (fin s m e) (inf t) = ap (λ (b : Bool). cond (eqb m 0) nan (inf b)) (unlike_turned s t)
product_turned f (fin s m e) (fin t n d) = rw (unlike_turned s t, mul_comm (m * up e) (n * up d), mul_comm (down e) (down d))
