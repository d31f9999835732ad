-- A float that its format holds is known by its sign and its size, and a fraction of that size rounds to it. Assumes nothing.
use Rattle.std.proofs.Common.{◌≡◌, ℕ, zero, suc, ◌+◌, ◌-◌, ◌*◌, ◌/◌, ◌^◌, ◌<◌, Bool, false, cond, T, ℤ, sym, refl, ap, ◌∙◌, subst, arith}
use native.Mathlib.Nat.{eq_of_mul-eq-mul_right}
use lib.Ieee.{Float, nan, inf, fin, Format, prec, low, up, down, size, hid, top, fits, round, of_bits, to_bits}
use lib.Ieee.Bits.{of_bits-to_bits}
use lib.Ieee.Exact.{HasValue, round_exact}
use lib.Ieee.Fits.{down_pos, round-fits}
use lib.Ieee.Nearest.{div_same}
use lib.Ieee.Scale.{overflow}
use Rattle.numbers.specs.Units.{count}
use Rattle.numbers.proofs.Amounts.{amount, counts, held}

-- the pattern of a value with the sign s and n units
unfoldable pub pattern_at : Format → Bool → ℕ → ℕ
pattern_at f s n = cond s (top f) 0 + (size n - prec f) * hid f + n / 2 ^ (size n - prec f)

pub pattern_by_count : (f : Format) (s : Bool) (m : ℕ) (e : ℤ) → to_bits f (fin s m e) ≡ pattern_at f s (count f (fin s m e))
unfolding to_bits count pattern_at
pattern_by_count f s m e = refl

-- a / c is so many units, cut to a whole number
pub count_of_value : (f : Format) (x : Float) (s : Bool) (a c : ℕ) → 0 < c → HasValue x s a c → count f x ≡ a * 2 ^ low f / c
unfolding count
count_of_value f nan s a c C v = absurd v
count_of_value f (inf t) s a c C v = absurd v
count_of_value f (fin t m e) s a c C v = div_same (m * up e * 2 ^ low f) (down e) (a * 2 ^ low f) c (down_pos e) C (turn (m * up e) (2 ^ low f) a (down e) v.1)
  where
    turn : (M L a d : ℕ) → M * c ≡ a * d → M * L * c ≡ a * L * d
    turn M L a d h = omega (arith, ap (λ (z : ℕ). z * L) h)

pub pattern_of_value : (f : Format) (x : Float) (s : Bool) (a c : ℕ) → 0 < c → HasValue x s a c → to_bits f x ≡ pattern_at f s (a * 2 ^ low f / c)
pattern_of_value f nan s a c C v = absurd v
pattern_of_value f (inf t) s a c C v = absurd v
pattern_of_value f (fin t m e) s a c C v =
    pattern_by_count f t m e
    ∙ ap (λ (b : Bool). pattern_at f b (count f (fin t m e))) v.0
    ∙ ap (pattern_at f s) (count_of_value f (fin t m e) s a c C v)

pub same_value : (f : Format) (x y : Float) (s : Bool) (a c b d : ℕ) → 0 < c → 0 < d → T (fits f x) → T (fits f y) → HasValue x s a c → HasValue y s b d → a * d ≡ b * c → x ≡ y
same_value f x y s a c b d C D p q v w e =
    sym (of_bits-to_bits f x p)
    ∙ ap (of_bits f) (pattern_of_value f x s a c C v ∙ ap (pattern_at f s) (div_same (a * 2 ^ low f) c (b * 2 ^ low f) d C D (turn (2 ^ low f) e)) ∙ sym (pattern_of_value f y s b d D w))
    ∙ of_bits-to_bits f y q
  where
    turn : (L : ℕ) → a * d ≡ b * c → a * L * d ≡ b * L * c
    turn L e = omega (arith, ap (λ (z : ℕ). z * L) e)

-- ---- rounding
pub unsigned : (f : Format) (s : Bool) (m : ℕ) (e : ℤ) → T (fits f (fin s m e)) → T (amount f (fin false m e))
unfolding fits amount
unsigned f s zero e t = t
unsigned f s (suc m) e t = t

-- a fraction of the size of a value that the format holds rounds to that value
pub round_itself : (f : Format) (s : Bool) (m : ℕ) (e : ℤ) (num den : ℕ) → T (fits f (fin s m e)) → 0 < den → num * down e ≡ m * up e * den → round f s num den ≡ fin s m e
round_itself f s m e num den t D h =
    let a = unsigned f s m e t in
    let k = held f (fin false m e) a in
    let n = count f (fin false m e) in
    let c : m * up e * 2 ^ low f ≡ n * down e = (counts f (fin false m e) a).1 in
    same_value f (round f s num den) (fin s m e) s num den (m * up e) (down e) D (down_pos e) (round-fits f s num den) t
    (round_exact f s num den k.digits k.shift D k.small (subst (λ (z : ℕ). z < overflow f) k.is k.below)
    (subst (λ (z : ℕ). num * 2 ^ low f ≡ z * den) k.is (eq_of_mul-eq-mul_right (down e) (down_pos e) (num * 2 ^ low f) (n * den) (turn (down e) (m * up e) (2 ^ low f) n h c))))
    (refl, refl)
    h
  where
    turn : (d M L n : ℕ) → num * d ≡ M * den → M * L ≡ n * d → num * L * d ≡ n * den * d
    turn d M L n h c = omega (arith, ap (λ (z : ℕ). z * L) h, ap (λ (z : ℕ). z * den) c)
