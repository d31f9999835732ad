-- Snapping: rounding a whole number n of units keeps its p leading digits, nearest, ties to even. It misses n by at most n / 2 ^ p, and passes no number of p digits that n does not pass.
-- Assumes nothing.
use Rattle.std.proofs.Common.{◌≡◌, ℕ, suc, ◌+◌, ◌-◌, ◌*◌, ◌/◌, ◌%◌, ◌^◌, ◌<◌, ◌≤◌, Bool, true, false, not, T, eqb, leb, ◌⊎◌, sym, refl, ap, ◌∙◌, subst, inl, inr, le_trans, lt_of_le_of_lt, mul-le-mul_right, mod-lt, zero-lt-suc, mul_assoc, eq-zero-or-pos, mul-lt-mul_of_pos_right, mul-pos, pow-suc, div-add-mod', zero-mul, mul-div_cancel, arith, eqb→eq, leb→le, pow_pos, pow-add}
use Prim.Native.Nat.{compare, Ordering}
use lib.Arith.{lt_of_le-ne}
use lib.Dec.{is_le, compare_is_eq, nleb→lt, eqb_refl}
use lib.Ieee.{Float, nan, inf, fin, Format, binary32, binary64, prec, low, size, nearest, round}
use lib.Ieee.Digits.{size_reaches, back}
use lib.Ieee.Fits.{nearest-le}
use lib.Ieee.Nearest.{closest, closest_mono, closest_same, nearest-ge}
use lib.Ieee.Exact.{HasValue, round_exact}
use lib.Ieee.Scale.{grid, overflow, round_val}
use Rattle.numbers.specs.Units.{miss}
use Rattle.numbers.proofs.Zeros.{round_nothing}
use Rattle.numbers.proofs.Amounts.{Counts, Held}

-- ---- the multiple of u that is nearest to n is at most half of u away
abbrev Compared : Ordering → ℕ → ℕ → Type 0
Compared Ordering.lt a b = a < b
Compared Ordering.eq a b = a ≡ b
Compared Ordering.gt a b = b < a

compared : (a b : ℕ) → Compared (compare a b) a b
compared a b = go (compare a b) (leb→le a b) (nleb→lt a b) (eqb→eq a b) (λ (e : a ≡ b). subst (λ (x : ℕ). T (eqb a x)) e (eqb_refl a))
  where
    go : (o : Ordering) → (T (is_le o) → a ≤ b) → (T (not (is_le o)) → b < a) → (T (compare_is_eq o) → a ≡ b) → (a ≡ b → T (compare_is_eq o)) → Compared o a b
    go Ordering.lt h k e n = lt_of_le-ne (h tt) n
    go Ordering.eq h k e n = e tt
    go Ordering.gt h k e n = k tt

abbrev pub WithinHalf : ℕ → ℕ → ℕ → Type 0
WithinHalf u x n = (x * 2 ≤ n * 2 + u) × (n * 2 ≤ x * 2 + u)

within_half : (o : Ordering) (n u q r : ℕ) → q * u + r ≡ n → r < u → Compared o (r * 2) u → WithinHalf u (nearest q o * u) n
within_half Ordering.lt n u q r e l c = omega arith
within_half Ordering.eq n u q r e l c =
    go (nearest q Ordering.eq * u) (mul-le-mul_right u (nearest-ge q Ordering.eq)) (mul-le-mul_right u (nearest-le q Ordering.eq))
  where
    go : (x : ℕ) → q * u ≤ x → x ≤ suc q * u → WithinHalf u x n
    go x a b = omega arith
within_half Ordering.gt n u q r e l c = omega arith

pub closest_within_half : (n u : ℕ) → 0 < u → WithinHalf u (closest n u * u) n
closest_within_half n u U = within_half (compare (n % u * 2) u) n u (n / u) (n % u) (div-add-mod' n u) (mod-lt n U) (compared (n % u * 2) u)

closest_whole : (n : ℕ) → closest n 1 ≡ n
closest_whole n = go (closest n 1) (closest_within_half n 1 (zero-lt-suc 0))
  where
    go : (x : ℕ) → WithinHalf 1 (x * 1) n → x ≡ n
    go x h = omega arith

-- ---- n with its p leading digits kept
unfoldable pub snap : ℕ → ℕ → ℕ
snap p n = closest n (2 ^ (size n - p)) * 2 ^ (size n - p)

-- x misses n by at most n / P
abbrev pub WithinPart : ℕ → ℕ → ℕ → Type 0
WithinPart P x n = (x * P ≤ n * P + n) × (n * P ≤ x * P + n)

pub snap_few : (p n : ℕ) → size n ≤ p → snap p n ≡ n
unfolding snap
snap_few p n h = subst (λ (k : ℕ). closest n (2 ^ k) * 2 ^ k ≡ n) (none (size n) p h) (go (closest n 1) (closest_whole n))
  where
    none : (a b : ℕ) → a ≤ b → 0 ≡ a - b
    none a b h = omega arith

    go : (x : ℕ) → x ≡ n → x * 1 ≡ n
    go x e = omega arith

pub snap_within : (p n : ℕ) → WithinPart (2 ^ suc p) (snap (suc p) n) n
unfolding snap
snap_within p n = go (leb (size n) (suc p)) (leb→le (size n) (suc p)) (nleb→lt (size n) (suc p))
  where
    kept : (z : ℕ) → suc p < z → p + (z - suc p) < z
    kept z h = omega arith

    grown : (x K P Q : ℕ) → WithinHalf K x n → P * K ≤ n → Q ≡ P * 2 → WithinPart Q x n
    grown x K P Q c b e = rw e (omega (arith, mul-le-mul_right P c.0, mul-le-mul_right P c.1))

    go : (b : Bool) → (T b → size n ≤ suc p) → (T (not b) → suc p < size n) → WithinPart (2 ^ suc p) (snap (suc p) n) n
    go true h k = rw (snap_few (suc p) n (h tt)) (omega arith)
    go false h k =
        let j = size n - suc p in
        let reached : 2 ^ p * 2 ^ j ≤ n = rw (← pow-add 2 p j) (size_reaches n (p + j) (kept (size n) (k tt))) in
        grown (closest n (2 ^ j) * 2 ^ j) (2 ^ j) (2 ^ p) (2 ^ suc p) (closest_within_half n (2 ^ j) (pow_pos j)) reached (pow-suc 2 p)

part_miss : (P x n : ℕ) → WithinPart P x n → P * miss x n ≤ n
part_miss P x n w = go (x - n) (n - x) (omega arith) (elim (eq-zero-or-pos (x - n)) [ inl z ↦ inl z | inr l ↦ inr (omega arith) ])
  where
    go : (d e : ℕ) → x + e ≡ n + d → (d ≡ 0) ⊎ (e ≡ 0) → P * (d + e) ≤ n
    go d e h (inl z) = omega (arith, ap (λ (y : ℕ). P * y) h, ap (λ (y : ℕ). P * y) z)
    go d e h (inr z) = omega (arith, ap (λ (y : ℕ). P * y) h, ap (λ (y : ℕ). P * y) z)

pub snap_miss : (f : Format) (n : ℕ) → 2 ^ prec f * miss (snap (prec f) n) n ≤ n
snap_miss binary32 n = part_miss (2 ^ 24) (snap 24 n) n (snap_within 23 n)
snap_miss binary64 n = part_miss (2 ^ 53) (snap 53 n) n (snap_within 52 n)

-- ---- where n is at most q * 2 ^ j, with a q of p digits, so is `snap p n`
pub snap_no_more : (p n q j : ℕ) → q < 2 ^ p → n ≤ q * 2 ^ j → snap p n ≤ q * 2 ^ j
unfolding snap
snap_no_more p n q j small h = go (leb k j) (leb→le k j) (nleb→lt k j)
  where
    k : ℕ
    k = size n - p

    multiple : (x : ℕ) → closest (x * 2 ^ k) (2 ^ k) ≡ x
    multiple x = closest_same (x * 2 ^ k) (2 ^ k) x 1 (pow_pos k) (zero-lt-suc 0) (one (x * 2 ^ k)) ∙ closest_whole x
      where
        one : (a : ℕ) → a * 1 ≡ a
        one a = omega arith

    more : (z : ℕ) → j < z - p → p + j < z
    more z h = omega arith

    go : (b : Bool) → (T b → k ≤ j) → (T (not b) → j < k) → closest n (2 ^ k) * 2 ^ k ≤ q * 2 ^ j
    go true l r =
        let x = q * 2 ^ (j - k) in
        let e : x * 2 ^ k ≡ q * 2 ^ j = mul_assoc q (2 ^ (j - k)) (2 ^ k) ∙ ap (λ (z : ℕ). q * z) (sym (pow-add 2 (j - k) k) ∙ ap (λ (z : ℕ). 2 ^ z) (back j k (l tt))) in
        let c : closest n (2 ^ k) ≤ x = rw multiple at (closest_mono n (2 ^ k) (x * 2 ^ k) (2 ^ k) (pow_pos k) (pow_pos k) (mul-le-mul_right (2 ^ k) (rw e h))) in
        rw (← e) (mul-le-mul_right (2 ^ k) c)
    go false l r = absurd (over (2 ^ p * 2 ^ j) (q * 2 ^ j) (mul-lt-mul_of_pos_right small (pow_pos j)) h (rw (← pow-add 2 p j) (size_reaches n (p + j) (more (size n) (r tt)))))
      where
        over : (a b : ℕ) → b < a → n ≤ b → a ≤ n → ⊥
        over a b u v w = omega arith

-- ---- `grid` of a whole number of units
pub grid_is_snap : (f : Format) (n : ℕ) → grid f n (2 ^ low f) ≡ snap (prec f) n
unfolding snap
grid_is_snap f n =
    let L = 2 ^ low f in
    let K = 2 ^ (size n - prec f) in
    ap (λ (z : ℕ). closest (n * L) (L * 2 ^ (size z - prec f)) * 2 ^ (size z - prec f)) (mul-div_cancel n (pow_pos (low f)))
    ∙ ap (λ (z : ℕ). z * K) (closest_same (n * L) (L * K) n K (mul-pos (pow_pos (low f)) (pow_pos (size n - prec f))) (pow_pos (size n - prec f)) (mul_assoc n L K))

-- ---- `round` of n units, for an n that is at most a value that the format holds
value_counts : (f : Format) (x : Float) (n : ℕ) → HasValue x false n (2 ^ low f) → Counts f x n
value_counts f nan n h = h
value_counts f (inf s) n h = h
value_counts f (fin s m e) n h = (λ (t : T s). absurd (subst T h.0 t), h.1)

-- its sign is false, or it rounds nothing
pub round_counts : (f : Format) (u : Bool) (n a : ℕ) → (T u → n ≡ 0) → Held f a → n ≤ a → Counts f (round f u n (2 ^ low f)) (snap (prec f) n) × (snap (prec f) n ≤ a)
round_counts f false n a z h l =
    let s : snap (prec f) n ≤ a = rw h.is (snap_no_more (prec f) n h.digits h.shift h.small (rw h.is at l)) in
    let g : grid f n (2 ^ low f) < overflow f = rw (grid_is_snap f n) (lt_of_le_of_lt s h.below) in
    let c : Counts f (round f false n (2 ^ low f)) (grid f n (2 ^ low f)) = value_counts f (round f false n (2 ^ low f)) (grid f n (2 ^ low f)) (round_val f n (2 ^ low f) g) in
    (subst (λ (k : ℕ). Counts f (round f false n (2 ^ low f)) k) (grid_is_snap f n) c, s)
round_counts f true n a z h l =
    let s : snap (prec f) n ≤ 0 = rw (z tt) (snap_no_more (prec f) 0 0 0 (pow_pos (prec f)) (omega arith)) in
    (rw (z tt, round_nothing f true (2 ^ low f) (pow_pos (low f))) (λ (t : T true). refl, nothing (snap (prec f) 0) (2 ^ low f) (rw (z tt) at s)), le_trans s (omega arith))
  where
    nothing : (k L : ℕ) → k ≤ 0 → 0 * 1 * L ≡ k * 1
    nothing k L h = omega arith

-- what the format holds is rounded to itself
pub round_held : (f : Format) (u : Bool) (n : ℕ) → (T u → n ≡ 0) → Held f n → Counts f (round f u n (2 ^ low f)) n
round_held f false n z h =
    value_counts f (round f false n (2 ^ low f)) n
    (round_exact f false n (2 ^ low f) h.digits h.shift (pow_pos (low f)) h.small (rw h.is at h.below) (ap (λ (k : ℕ). k * 2 ^ low f) h.is))
round_held f true n z h = rw (z tt, round_nothing f true (2 ^ low f) (pow_pos (low f))) (λ (t : T true). refl, zero-mul (2 ^ low f))
