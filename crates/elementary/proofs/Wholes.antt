-- Sums and differences of whole numbers are exact in a float. Assumes nothing.
use mathlib.Core.Path.{◌≡◌, ap}
use mathlib.Core.Bool.{Bool, true, false, not, true≢false}
use Prim.Native.Nat.{ℕ, suc, ◌+◌, ◌-◌, ◌*◌, ◌^◌, ◌≤◌, ◌<◌}
use native.Mathlib.Nat.{mul-pos, mul-le-mul_right, mul-lt-mul_of_pos_right, zero-lt-suc}
use native.Mathlib.Omega.{arith}
use borrow.Author.Tests.{lt-ltb, le-ltb}
use lib.IntN.{ℤ, pos, sub_ℕ}
use lib.Dec.{T, ltb, ltb→lt, nltb→le}
use lib.Ieee.{Float, nan, inf, fin, Format, prec, up, down, sum, add, sub, neg, of_int}
use lib.Ieee.Back.{round_whole}
use lib.Ieee.Exact.{HasValue}
use lib.Ieee.Fits.{down_pos}
use lib.Ieee.Scale.{round_same}

-- a / 1 less b / 1 over the common denominator D
module _ (f : Format) (a b X Y D : ℕ) (p : 0 < D) (x : X ≡ a * D) (y : Y ≡ b * D) where
  less : a < b → sum f false X true Y D ≡ of_int f (sub_ℕ a b)
  unfolding sum of_int
  less h =
      rw (lt-ltb X Y (over h), lt-ltb a b h)
      (round_same f true (Y - X) D (suc (b - suc a)) 1 p (zero-lt-suc 0) (turn h))
    where
      over : a < b → X < Y
      over h = omega (arith, mul-lt-mul_of_pos_right h p)

      turn : a < b → (Y - X) * 1 ≡ suc (b - suc a) * D
      turn h = go (b - a) (omega arith) (omega arith)
        where
          go : (d : ℕ) → suc (b - suc a) ≡ d → b ≡ a + d → (Y - X) * 1 ≡ suc (b - suc a) * D
          go d e g = omega (arith, ap (λ (z : ℕ). z * D) e, ap (λ (z : ℕ). z * D) g)

  no_less : b ≤ a → sum f false X true Y D ≡ of_int f (sub_ℕ a b)
  unfolding sum of_int
  no_less h =
      rw (le-ltb X Y (over h), le-ltb a b h)
      (round_same f false (X - Y) D (a - b) 1 p (zero-lt-suc 0) (turn h))
    where
      over : b ≤ a → Y ≤ X
      over h = omega (arith, mul-le-mul_right D h)

      turn : b ≤ a → (X - Y) * 1 ≡ (a - b) * D
      turn h = go (a - b) (omega arith)
        where
          go : (d : ℕ) → a ≡ b + d → (X - Y) * 1 ≡ d * D
          go d g = omega (arith, ap (λ (z : ℕ). z * D) g)

  difference : sum f false X true Y D ≡ of_int f (sub_ℕ a b)
  difference = go (ltb a b) (ltb→lt a b) (nltb→le a b)
    where
      go : (t : Bool) → (T t → a < b) → (T (not t) → b ≤ a) → sum f false X true Y D ≡ of_int f (sub_ℕ a b)
      go true h g = less (h tt)
      go false h g = no_less (g tt)

  -- -a / 1 and b / 1
  more : a < b → sum f true X false Y D ≡ of_int f (pos (b - a))
  unfolding sum of_int
  more h = rw (lt-ltb X Y (over h)) (round_same f false (Y - X) D (b - a) 1 p (zero-lt-suc 0) (turn h))
    where
      over : a < b → X < Y
      over h = omega (arith, mul-lt-mul_of_pos_right h p)

      turn : a < b → (Y - X) * 1 ≡ (b - a) * D
      turn h = go (b - a) (omega arith)
        where
          go : (d : ℕ) → b ≡ a + d → (Y - X) * 1 ≡ d * D
          go d g = omega (arith, ap (λ (z : ℕ). z * D) g)

  together : sum f false X false Y D ≡ of_int f (pos (a + b))
  unfolding sum of_int
  together = round_same f false (X + Y) D (a + b) 1 p (zero-lt-suc 0) (turn x y)
    where
      turn : X ≡ a * D → Y ≡ b * D → (X + Y) * 1 ≡ (a + b) * D
      turn g h = omega arith

-- ---- the same of two floats that are a and b
over : (M a d c : ℕ) → M * 1 ≡ a * d → M * c ≡ a * (d * c)
over M a d c h = omega (arith, ap (λ (z : ℕ). z * c) h)

over' : (M a d c : ℕ) → M * 1 ≡ a * d → M * c ≡ a * (c * d)
over' M a d c h = omega (arith, ap (λ (z : ℕ). z * c) h)

module _ (f : Format) (a b : ℕ) where
  abbrev AtBoth : (Float → Float → Type 0) → Type 0
  AtBoth P = (m : ℕ) (e : ℤ) (n : ℕ) (d : ℤ) → m * up e * down d ≡ a * (down e * down d) → n * up d * down e ≡ b * (down e * down d) → P (fin false m e) (fin false n d)

  both : (P : Float → Float → Type 0) → AtBoth P → (x y : Float) → HasValue x false a 1 → HasValue y false b 1 → P x y
  both P at nan y v w = absurd v
  both P at (inf s) y v w = absurd v
  both P at (fin s m e) nan v w = absurd w
  both P at (fin s m e) (inf t) v w = absurd w
  both P at (fin true m e) (fin t n d) v w = absurd (true≢false v.0)
  both P at (fin false m e) (fin true n d) v w = absurd (true≢false w.0)
  both P at (fin false m e) (fin false n d) v w = at m e n d (over (m * up e) a (down e) (down d) v.1) (over' (n * up d) b (down d) (down e) w.1)

  abbrev common : ℤ → ℤ → ℕ
  common e d = down e * down d

  common_pos : (e d : ℤ) → 0 < common e d
  common_pos e d = mul-pos (down_pos e) (down_pos d)

  sub_values : (x y : Float) → HasValue x false a 1 → HasValue y false b 1 → sub f x y ≡ of_int f (sub_ℕ a b)
  unfolding sub
  sub_values = both (λ x y. sub f x y ≡ of_int f (sub_ℕ a b)) (λ m e n d p q. difference f a b (m * up e * down d) (n * up d * down e) (common e d) (common_pos e d) p q)

  add_values : (x y : Float) → HasValue x false a 1 → HasValue y false b 1 → add f x y ≡ of_int f (pos (a + b))
  unfolding add
  add_values = both (λ x y. add f x y ≡ of_int f (pos (a + b))) (λ m e n d p q. together f a b (m * up e * down d) (n * up d * down e) (common e d) (common_pos e d) p q)

  neg_add_values : a < b → (x y : Float) → HasValue x false a 1 → HasValue y false b 1 → add f (neg x) y ≡ of_int f (pos (b - a))
  unfolding add neg
  neg_add_values h = both (λ x y. add f (neg x) y ≡ of_int f (pos (b - a))) (λ m e n d p q. more f a b (m * up e * down d) (n * up d * down e) (common e d) (common_pos e d) p q h)

pub whole_value : (f : Format) (a : ℕ) → a ≤ 2 ^ prec f → HasValue (of_int f (pos a)) false a 1
unfolding of_int
whole_value f a h = round_whole f false a h

module _ (f : Format) (a b : ℕ) (p : a ≤ 2 ^ prec f) (q : b ≤ 2 ^ prec f) where
  pub whole_difference : sub f (of_int f (pos a)) (of_int f (pos b)) ≡ of_int f (sub_ℕ a b)
  whole_difference = sub_values f a b (of_int f (pos a)) (of_int f (pos b)) (whole_value f a p) (whole_value f b q)

  pub whole_sum : add f (of_int f (pos a)) (of_int f (pos b)) ≡ of_int f (pos (a + b))
  whole_sum = add_values f a b (of_int f (pos a)) (of_int f (pos b)) (whole_value f a p) (whole_value f b q)

  pub whole_less : a < b → add f (neg (of_int f (pos a))) (of_int f (pos b)) ≡ of_int f (pos (b - a))
  whole_less h = neg_add_values f a b h (of_int f (pos a)) (of_int f (pos b)) (whole_value f a p) (whole_value f b q)
