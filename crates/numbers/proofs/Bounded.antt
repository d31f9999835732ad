-- Amounts beside a bound that their format holds: a fraction, a product or a quotient that is at most the bound stays so when it is rounded, and a fraction or a difference that is at least the
-- bound stays so too. A product is finite only if both its factors are. Assumes nothing.
use Rattle.std.proofs.Common.{◌≡◌, ℕ, zero, suc, ◌+◌, ◌-◌, ◌*◌, ◌^◌, ◌<◌, ◌≤◌, Bool, true, false, cond, T, eqb, ℤ, pos, sym, refl, ap, ◌∙◌, lt_of_lt_of_le, mul-le-mul_right, zero-lt-suc, mul-lt-mul_of_pos_right, mul-pos, le_of_mul-le-mul_right, arith, pow_pos, pow_mono, pow-add, le-ltb, ne_eqb}
use lib.Ieee.{Float, nan, inf, fin, Format, prec, emax, low, up, down, unlike, round, sum, add, sub, mul, div, le}
use lib.Ieee.Bits.{is_true}
use lib.Ieee.Fits.{up_pos, down_pos, round-fits}
use lib.Ieee.Order.{round_mono}
use lib.Ieee.Scale.{finite, round_same}
use Rattle.numbers.specs.Clamps.{plus_zero}
use Rattle.numbers.specs.Units.{count}
use Rattle.numbers.proofs.Amounts.{passes, amount, Counts, counts, one_count, negative_counts_nothing, Held, amount_of_count, amount_finite}
use Rattle.numbers.proofs.Order.{nothing_times, le_amount, zero_amount, amount_by_tests}
use Rattle.numbers.proofs.Zeros.{plus_zero_lem, round_nothing}
use Rattle.numbers.proofs.Snap.{round_held}
use Rattle.numbers.proofs.Comparing.{not_above_lem, finite_within}
use Rattle.numbers.proofs.Differences.{sub_is, difference}

-- ---- so few digits, so far up, are held
pub held_digits : (f : Format) (digits places shift : ℕ) → digits < 2 ^ places → places ≤ prec f → places + shift ≤ low f + suc (emax f) → Held f (digits * 2 ^ shift)
held_digits f digits places shift few within far =
    record {
      digits = digits;
      shift = shift;
      small = lt_of_lt_of_le few (pow_mono within);
      is = refl;
      below = lt_of_lt_of_le (mul-lt-mul_of_pos_right few (pow_pos shift)) (rw (← pow-add 2 places shift) (pow_mono far));
    }

-- ---- one rounding of num / den, whose sign u is minus for nothing alone
module _ (f : Format) (num den : ℕ) (D : 0 < den) where
  not_below_zero : le plus_zero (round f false num den) ≡ true
  not_below_zero =
      ap (λ (z : Float). le z (round f false num den)) (plus_zero_lem ∙ sym (round_nothing f false den D))
      ∙ is_true (le (round f false 0 den) (round f false num den)) (round_mono f 0 den num den D D (omega arith))

  nothing_rounded : (u : Bool) → num ≡ 0 → T (amount f (round f u num den)) × (count f (round f u num den) ≡ 0)
  nothing_rounded u z =
      let e : round f u num den ≡ fin u 0 (pos 0) = ap (λ (n : ℕ). round f u n den) z ∙ round_nothing f u den D in
      let c : Counts f (fin u 0 (pos 0)) 0 = (λ (t : T u). refl, none (2 ^ low f)) in
      rw e (amount_of_count f (fin u 0 (pos 0)) 0 c (rw e at (round-fits f u num den)), one_count f (fin u 0 (pos 0)) 0 c)
    where
      none : (L : ℕ) → 0 * 1 * L ≡ 0 * 1
      none L = omega arith

  -- where it is finite it is an amount
  pub round_amount : (u : Bool) → (T u → num ≡ 0) → T (finite (round f u num den)) → T (amount f (round f u num den))
  round_amount true z h = (nothing_rounded true (z tt)).0
  round_amount false z h =
      amount_by_tests f (round f false num den) (is_true _ (round-fits f false num den)) (is_true _ h) (not_above_lem plus_zero (round f false num den) not_below_zero)

  module _ (a : ℕ) (h : Held f a) where
    -- the bound as a value of the format
    abbrev bound : Float
    bound = round f false a (2 ^ low f)

    bound_amount : T (amount f bound)
    bound_amount = amount_of_count f bound a (round_held f false a (λ t. absurd t) h) (round-fits f false a (2 ^ low f))

    bound_count : count f bound ≡ a
    bound_count = one_count f bound a (round_held f false a (λ t. absurd t) h)

    pub round_under : (u : Bool) → (T u → num ≡ 0) → num * 2 ^ low f ≤ a * den → T (amount f (round f u num den)) × (count f (round f u num den) ≤ a)
    round_under true z l = let w = nothing_rounded true (z tt) in (w.0, rw w.1 (omega arith))
    round_under false z l =
        let x = round f false num den in
        let under : T (le x bound) = round_mono f num den a (2 ^ low f) D (pow_pos (low f)) l in
        let zero_finite = is_true _ (amount_finite f plus_zero (zero_amount f)) in
        let bound_finite = is_true _ (amount_finite f bound bound_amount) in
        let known = round_amount false z (passes (finite_within plus_zero x bound zero_finite bound_finite not_below_zero (is_true _ under))) in
        (known, rw bound_count at ((le_amount f x bound known bound_amount).0 under))

    pub round_over : T (amount f (round f false num den)) → a * den ≤ num * 2 ^ low f → a ≤ count f (round f false num den)
    round_over known l =
        rw bound_count at ((le_amount f bound (round f false num den) bound_amount known).0 (round_mono f a (2 ^ low f) num den (pow_pos (low f)) D l))

-- ---- products and quotients
module _ (f : Format) (s : Bool) (m : ℕ) (e : ℤ) (t : Bool) (n : ℕ) (d : ℤ) (p : T (amount f (fin s m e))) (q : T (amount f (fin t n d))) where
  product_sign : T (unlike s t) → m * up e * (n * up d) ≡ 0
  product_sign u = go s t (counts f (fin s m e) p).0 (counts f (fin t n d) q).0 u
    where
      first : (a b : ℕ) → m ≡ 0 → m * a * b ≡ 0
      first a b z = rw z (omega arith)

      second : (a b : ℕ) → n ≡ 0 → a * (n * b) ≡ 0
      second a b z = rw z (omega arith)

      go : (s t : Bool) → (T s → m ≡ 0) → (T t → n ≡ 0) → T (unlike s t) → m * up e * (n * up d) ≡ 0
      go true true z w u = absurd u
      go true false z w u = first (up e) (n * up d) (z tt)
      go false true z w u = second (m * up e) (up d) (w tt)
      go false false z w u = absurd u

  product_bounded : (a : ℕ) → count f (fin s m e) * count f (fin t n d) ≤ a * 2 ^ low f → m * up e * (n * up d) * 2 ^ low f ≤ a * (down e * down d)
  product_bounded a l = go (m * up e) (n * up d) (count f (fin s m e)) (count f (fin t n d)) (2 ^ low f) (down e) (down d) (pow_pos (low f)) (counts f (fin s m e) p).1 (counts f (fin t n d) q).1 l
    where
      go : (M N X Y L c k : ℕ) → 0 < L → M * L ≡ X * c → N * L ≡ Y * k → X * Y ≤ a * L → M * N * L ≤ a * (c * k)
      go M N X Y L c k z g h l =
          le_of_mul-le-mul_right {k = L} (omega (arith, ap (λ (i : ℕ). i * (N * L)) g, ap (λ (i : ℕ). X * c * i) h, mul-le-mul_right (c * k) l)) z

pub product_amount : (f : Format) (x y : Float) → T (amount f x) → T (amount f y) → T (finite (mul f x y)) → T (amount f (mul f x y))
unfolding mul
product_amount f nan y p q h = absurd h
product_amount f (inf s) y p q h = absurd (counts f (inf s) p)
product_amount f (fin s m e) nan p q h = absurd h
product_amount f (fin s m e) (inf t) p q h = absurd (counts f (inf t) q)
product_amount f (fin s m e) (fin t n d) p q h =
    round_amount f (m * up e * (n * up d)) (down e * down d) (mul-pos (down_pos e) (down_pos d)) (unlike s t) (product_sign f s m e t n d p q) h

pub product_under : (f : Format) (x y : Float) (a : ℕ) → T (amount f x) → T (amount f y) → Held f a → count f x * count f y ≤ a * 2 ^ low f
    → T (amount f (mul f x y)) × (count f (mul f x y) ≤ a)
unfolding mul
product_under f nan y a p q h l = absurd (counts f nan p)
product_under f (inf s) y a p q h l = absurd (counts f (inf s) p)
product_under f (fin s m e) nan a p q h l = absurd (counts f nan q)
product_under f (fin s m e) (inf t) a p q h l = absurd (counts f (inf t) q)
product_under f (fin s m e) (fin t n d) a p q h l =
    round_under f (m * up e * (n * up d)) (down e * down d) (mul-pos (down_pos e) (down_pos d)) a h (unlike s t) (product_sign f s m e t n d p q) (product_bounded f s m e t n d p q a l)

endless : (b u : Bool) → T (finite (cond b nan (inf u))) → ⊥
endless true u h = h
endless false u h = h

pub factors_finite : (f : Format) (x y : Float) → T (finite (mul f x y)) → T (finite x) × T (finite y)
unfolding mul
factors_finite f nan y h = absurd h
factors_finite f (inf s) nan h = absurd h
factors_finite f (inf s) (inf t) h = absurd h
factors_finite f (inf s) (fin t n d) h = absurd (endless (eqb n 0) (unlike s t) h)
factors_finite f (fin s m e) nan h = absurd h
factors_finite f (fin s m e) (inf t) h = absurd (endless (eqb m 0) (unlike s t) h)
factors_finite f (fin s m e) (fin t n d) h = (tt, tt)

-- by an amount above 0
pub quotient_under : (f : Format) (x y : Float) (a : ℕ) → T (amount f x) → T (amount f y) → 0 < count f y → Held f a → count f x * 2 ^ low f ≤ a * count f y
    → T (amount f (div f x y)) × (count f (div f x y) ≤ a)
unfolding div
quotient_under f nan y a p q c h l = absurd (counts f nan p)
quotient_under f (inf s) y a p q c h l = absurd (counts f (inf s) p)
quotient_under f (fin s m e) nan a p q c h l = absurd (counts f nan q)
quotient_under f (fin s m e) (inf t) a p q c h l = absurd (counts f (inf t) q)
quotient_under f (fin s m e) (fin t n d) a p q c h l =
    let some = numerator (counts f (fin t n d) q).1 c in
    rw (ne_eqb n 0 some) (round_under f (m * up e * down d) (n * up d * down e) (mul-pos (mul-pos (above n some) (up_pos d)) (down_pos e)) a h (unlike s t) (sign s t (counts f (fin s m e) p).0 (counts f (fin t n d) q).0)
    (bounded (m * up e) (n * up d) (count f (fin s m e)) (count f (fin t n d)) (2 ^ low f) (down e) (down d) (pow_pos (low f)) (counts f (fin s m e) p).1 (counts f (fin t n d) q).1 l))
  where
    none : (u L k Y : ℕ) → 0 * u * L ≡ Y * k → 0 < k → 0 < Y → ⊥
    none u L k Y g z y = omega (arith, mul-le-mul_right k y)

    numerator : n * up d * 2 ^ low f ≡ count f (fin t n d) * down d → 0 < count f (fin t n d) → n ≡ 0 → ⊥
    numerator g c z = none (up d) (2 ^ low f) (down d) (count f (fin t n d)) (sym (ap (λ (i : ℕ). i * up d * 2 ^ low f) z) ∙ g) (down_pos d) c

    above : (n : ℕ) → (n ≡ 0 → ⊥) → 0 < n
    above zero z = absurd (z refl)
    above (suc n) z = zero-lt-suc n

    sign : (s t : Bool) → (T s → m ≡ 0) → (T t → n ≡ 0) → T (unlike s t) → m * up e * down d ≡ 0
    sign true true z w u = absurd u
    sign true false z w u = nothing_times m (up e) (down d) (z tt)
    sign false true z w u = absurd (numerator (counts f (fin t n d) q).1 c (w tt))
    sign false false z w u = absurd u

    bounded : (M N X Y L i k : ℕ) → 0 < L → M * L ≡ X * i → N * L ≡ Y * k → X * L ≤ a * Y → M * k * L ≤ a * (N * i)
    bounded M N X Y L i k z g w l = le_of_mul-le-mul_right {k = L} (omega (arith, ap (λ (j : ℕ). j * (k * L)) g, ap (λ (j : ℕ). j * (a * i)) w, mul-le-mul_right (i * k) l)) z

-- ---- sums and differences
pub sum_rounded : (f : Format) (x y : Float) → T (amount f x) → T (amount f y) → 0 < count f x → add f x y ≡ round f false (count f x + count f y) (2 ^ low f)
unfolding add
sum_rounded f nan y p q c = absurd (counts f nan p)
sum_rounded f (inf s) y p q c = absurd (counts f (inf s) p)
sum_rounded f (fin s m e) nan p q c = absurd (counts f nan q)
sum_rounded f (fin s m e) (inf t) p q c = absurd (counts f (inf t) q)
sum_rounded f (fin s m e) (fin t n d) p q c =
    one_sign s t (m * up e * down d) (n * up d * down e) (λ (u : T s). none (count f (fin s m e)) (negative_counts_nothing f s m e (count f (fin s m e)) (counts f (fin s m e) p) u) c) (λ (u : T t). nothing_times n (up d) (down e) ((counts f (fin t n d) q).0 u))
    ∙ round_same f false (m * up e * down d + n * up d * down e) (down e * down d) (count f (fin s m e) + count f (fin t n d)) (2 ^ low f) (mul-pos (down_pos e) (down_pos d)) (pow_pos (low f))
    (added (m * up e) (n * up d) (count f (fin s m e)) (count f (fin t n d)) (2 ^ low f) (down e) (down d) (counts f (fin s m e) p).1 (counts f (fin t n d) q).1)
  where
    none : (n : ℕ) → n ≡ 0 → 0 < n → ⊥
    none n z l = omega arith

    one_sign : (s t : Bool) (X Y : ℕ) → (T s → ⊥) → (T t → Y ≡ 0) → sum f s X t Y (down e * down d) ≡ round f false (X + Y) (down e * down d)
    one_sign true t X Y z w = absurd (z tt)
    one_sign false false X Y z w = unfold sum in refl
    one_sign false true X Y z w = unfold sum in rw (w tt, le-ltb X 0 (omega arith)) (ap (λ (i : ℕ). round f false i (down e * down d)) (omega arith))

    added : (M N X Y L i k : ℕ) → M * L ≡ X * i → N * L ≡ Y * k → (M * k + N * i) * L ≡ (X + Y) * (i * k)
    added M N X Y L i k g h = omega (arith, ap (λ (j : ℕ). j * k) g, ap (λ (j : ℕ). j * i) h)

pub difference_over : (f : Format) (x y : Float) (a : ℕ) → T (amount f x) → T (amount f y) → Held f a → 0 < a → count f y + a ≤ count f x → a ≤ count f (sub f x y)
difference_over f x y a p q h c l =
    let w = sub_is f x y (count f x) (count f y) (counts f x p) (counts f y q) (omega arith) in
    let d = difference f x y p q (omega arith) in
    go w.0 w.1 w.2 d.is_amount
  where
    some : (k : ℕ) → k ≡ 0 → a ≤ k → ⊥
    some k z g = omega arith

    go : (u : Bool) → (T u → count f x - count f y ≡ 0) → sub f x y ≡ round f u (count f x - count f y) (2 ^ low f) → T (amount f (sub f x y)) → a ≤ count f (sub f x y)
    go true z e known = absurd (some (count f x - count f y) (z tt) (omega arith))
    go false z e known =
        rw e (round_over f (count f x - count f y) (2 ^ low f) (pow_pos (low f)) a h (rw e at known) (mul-le-mul_right (2 ^ low f) (omega arith)))
