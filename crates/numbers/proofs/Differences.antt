-- Differences: x - y, for amounts with y at most x, is an amount, no more than x, and misses the exact difference by at most that difference over 2 ^ prec.
-- What is left after a part below the balance is above zero. Assumes nothing.
use Rattle.std.proofs.Common.{◌≡◌, ℕ, zero, suc, ◌+◌, ◌-◌, ◌*◌, ◌^◌, ◌<◌, ◌≤◌, Bool, true, false, not, ◌&&◌, T, ltb, sym, ap, ◌∙◌, subst, inl, inr, le_of_lt, mul-le-mul_right, zero-lt-suc, add-sub_of_le, sub-le, arith, le-ltb}
use native.Mathlib.Nat.{eq_of_mul-eq-mul_right}
use lib.Ieee.{Float, nan, inf, fin, Format, binary32, binary64, prec, low, up, down, round, sum, sub, lt, fits, of_bits}
use lib.Ieee.Bits.{is_true}
use lib.Ieee.Fits.{sub-fits}
use lib.Ieee.Scale.{round_same}
use Rattle.numbers.specs.Clamps.{plus_zero}
use Rattle.numbers.specs.Units.{count, miss}
use Rattle.numbers.proofs.Amounts.{passes, amount, Counts, counts, one_count, held, amount_of_count}
use Rattle.numbers.proofs.Order.{Common, common, no_more, nothing_times, lt_amount, zero_amount, zero_count, above_amount, none_above_infinity}
use Rattle.numbers.proofs.Snap.{snap, snap_miss, round_counts}

-- ---- which `round` a difference is: its sign u is true only for nothing less nothing
sum_is : (f : Format) (s t : Bool) (X Y c : ℕ) → (T s → X ≡ 0) → (T t → Y ≡ 0) → Y ≤ X → (u : Bool) × (T u → X ≡ 0) × (sum f s X (not t) Y c ≡ round f u (X - Y) c)
unfolding sum
sum_is f false false X Y c p q h = (false, λ t. absurd t, rw (le-ltb X Y h))
sum_is f true true X Y c p q h = (true && ltb Y X, λ t. p tt, rw (le-ltb X Y h))
sum_is f false true X Y c p q h = (false, λ t. absurd t, ap (λ (z : ℕ). round f false z c) (same (q tt)))
  where
    same : Y ≡ 0 → X + Y ≡ X - Y
    same z = omega arith
sum_is f true false X Y c p q h = (true, p, ap (λ (z : ℕ). round f true z c) (same (p tt)))
  where
    same : X ≡ 0 → X + Y ≡ X - Y
    same z = omega arith

module _ (X Y a b L D : ℕ) (c : Common X Y a b L D) (h : b ≤ a) where
  differ : (X - Y) * L ≡ (a - b) * D
  differ = go (X - Y) (a - b) (add-sub_of_le (no_more X Y a b L D c h)) (add-sub_of_le h)
    where
      go : (k n : ℕ) → Y + k ≡ X → b + n ≡ a → k * L ≡ n * D
      go k n p q = omega (arith, ap (λ (z : ℕ). z * L) p, ap (λ (z : ℕ). z * D) q)

  nothing_left : X ≡ 0 → a - b ≡ 0
  nothing_left z = eq_of_mul-eq-mul_right D c.denominator (a - b) 0 (sym differ ∙ go (X - Y) (omega arith))
    where
      go : (k : ℕ) → k ≡ 0 → k * L ≡ 0 * D
      go k e = rw e (omega arith)

pub sub_is : (f : Format) (x y : Float) (a b : ℕ) → Counts f x a → Counts f y b → b ≤ a → (u : Bool) × (T u → a - b ≡ 0) × (sub f x y ≡ round f u (a - b) (2 ^ low f))
unfolding sub
sub_is f nan y a b p q h = absurd p
sub_is f (inf s) y a b p q h = absurd p
sub_is f (fin s m e) nan a b p q h = absurd q
sub_is f (fin s m e) (inf t) a b p q h = absurd q
sub_is f (fin s m e) (fin t n d) a b p q h =
    let X = m * up e * down d in
    let Y = n * up d * down e in
    let D = down e * down d in
    let c = common f s m e t n d a b p q in
    let w = sum_is f s t X Y D (λ (u : T s). nothing_times m (up e) (down d) (p.0 u)) (λ (u : T t). nothing_times n (up d) (down e) (q.0 u)) (no_more X Y a b (2 ^ low f) D c h) in
    (w.0, λ u. nothing_left X Y a b (2 ^ low f) D c h (w.1 u), w.2 ∙ round_same f w.0 (X - Y) D (a - b) (2 ^ low f) c.denominator c.unit (differ X Y a b (2 ^ low f) D c h))

-- ---- what it counts
pub record Difference (f : Format) (x y r : Float) : Type 0 where
  pub is_amount : T (amount f r)
  pub no_more_left : count f r ≤ count f x
  pub close : 2 ^ prec f * miss (count f r) (count f x - count f y) ≤ count f x - count f y

pub difference : (f : Format) (x y : Float) → T (amount f x) → T (amount f y) → count f y ≤ count f x → Difference f x y (sub f x y)
difference f x y p q h =
    let n = count f x - count f y in
    let w = sub_is f x y (count f x) (count f y) (counts f x p) (counts f y q) h in
    let c = subst (λ (r : Float). Counts f r (snap (prec f) n) × (snap (prec f) n ≤ count f x)) (sym w.2) (round_counts f w.0 n (count f x) w.1 (held f x p) (sub-le (count f x) (count f y))) in
    let e : count f (sub f x y) ≡ snap (prec f) n = one_count f (sub f x y) (snap (prec f) n) c.0 in
    record {
      is_amount = amount_of_count f (sub f x y) (snap (prec f) n) c.0 (sub-fits f x y);
      no_more_left = rw e c.1;
      close = rw e (snap_miss f n);
    }

-- ---- what is left of x after a y below it is above zero: of any two values of the format, an infinite x too
some_left : (P r n : ℕ) → 2 ≤ P → 0 < n → P * miss r n ≤ n → 0 < r
some_left P zero n two h c = absurd (none (miss 0 n) (P * miss 0 n) (omega arith) (mul-le-mul_right (miss 0 n) two) c)
  where
    none : (k m : ℕ) → n ≤ k → 2 * k ≤ m → m ≤ n → ⊥
    none k m a b c = omega arith
some_left P (suc r) n two h c = zero-lt-suc r

two_le : (f : Format) → 2 ≤ 2 ^ prec f
two_le binary32 = omega arith
two_le binary64 = omega arith

pub left_above_amounts : (f : Format) (x y : Float) → T (amount f x) → T (amount f y) → T (lt y x) → T (lt plus_zero (sub f x y))
left_above_amounts f x y p q l =
    let g : count f y < count f x = (lt_amount f y x q p).0 l in
    let d = difference f x y p q (le_of_lt g) in
    (lt_amount f plus_zero (sub f x y) (zero_amount f) d.is_amount).1 (rw (zero_count f) (some_left (2 ^ prec f) (count f (sub f x y)) (count f x - count f y) (two_le f) (omega arith) d.close))

infinity_left : (f : Format) (y : Float) → T (amount f y) → T (lt plus_zero (sub f (inf false) y))
unfolding lt sub amount of_bits
infinity_left f nan t = t
infinity_left f (inf s) t = absurd t
infinity_left f (fin s m e) t = tt

pub left_above : (f : Format) (x y : Float) → fits f x ≡ true → fits f y ≡ true → lt plus_zero y ≡ true → lt y x ≡ true → lt plus_zero (sub f x y) ≡ true
left_above f x y u v a b =
    is_true (lt plus_zero (sub f x y))
    (elim (above_amount f y plus_zero (zero_amount f) (passes v) (passes a)) [
      | inl q ↦
          elim (above_amount f x y q (passes u) (passes b)) [
            | inl p ↦ left_above_amounts f x y p q (passes b)
            | inr e ↦ rw e (infinity_left f y q)
          ]
      | inr e ↦ absurd (none_above_infinity x (rw e at (passes b)))
    ])
