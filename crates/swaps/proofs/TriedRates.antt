-- Zero rates with one more at the end, that is tried: each rate of them, for one and for eight; and that before the knot before the last none of it is felt.
-- Assumes nothing.
use mathlib.Core.Path.{◌≡◌, refl, sym, ap, ap₂, ◌∙◌}
use mathlib.Core.Bool.{Bool, true, false, cond}
use mathlib.Core.List.{List, [], ◌∷◌, map}
use Prim.Native.Nat.{ℕ, zero, suc, ◌+◌, ◌-◌, ◌<◌, ◌≤◌}
use native.Mathlib.Omega.{arith}
use lib.ListN.{length, replicate, length-append, get_or-eq_default}
use lib.Seq.{get_or-append_seam}
use lib.Ieee.{Float, nan, le}
use Rattle.elementary.specs.Exp.{exp}
use Rattle.elementary.proofs.PartWay.{copies, map_alike, map_same}
use Rattle.curves.specs.Segments.{segment_ending, knot, last_of, flat_outside, Ends, ends_of}
use Rattle.curves.specs.Formulas.{along_zeros}
use Rattle.curves.specs.inner.Halving.{ending, segment_by, passes}
use Rattle.curves.proofs.Serving.{by_rule, serves_before}
use Rattle.curves.proofs.Flat.{before_first, past_last, inside, ends_are}
use Rattle.swaps.specs.inner.Knots.{with_rate}
use Rattle.swaps.specs.Discount.{zero_rate_of, discount_of}
use Rattle.swaps.specs.inner.Runs.{exponent_of}
use Rattle.swaps.proofs.DiscountKind.{exp_is_discount}

-- what is neither true nor false
never : {Any : Type 0} (b : Bool) → b ≡ true → b ≡ false → Any
never b t f = let z : ◌≡◌ {A = ℕ} 0 1 = cc in absurd (omega arith)

module _ (xs : List Float) (r : Float) where
  pub with_length : length (with_rate xs r) ≡ length xs + 1
  with_length = length-append xs (r ∷ [])

  pub tried : (i : ℕ) → i ≡ length xs → r ≡ knot (with_rate xs r) i
  tried i e = rw e (sym (get_or-append_seam xs r [] nan))

  pub last_tried : r ≡ last_of (with_rate xs r)
  last_tried = let e : length (with_rate xs r) - 1 ≡ length xs = omega (arith, with_length) in tried _ e

  pub past_tried : (i : ℕ) → length xs ≤ i → knot xs i ≡ knot (with_rate xs r) (suc i)
  past_tried i h =
      let g : length (with_rate xs r) ≤ suc i = omega (arith, with_length) in
      get_or-eq_default xs nan h ∙ sym (get_or-eq_default (with_rate xs r) nan g)

pub earlier_kept : (xs : List Float) (r : Float) (i : ℕ) → (i ≡ length xs → ⊥) → knot xs i ≡ knot (with_rate xs r) i
earlier_kept [] r zero h = absurd (h refl)
earlier_kept [] r (suc i) h = refl
earlier_kept (x ∷ xs) r zero h = refl
earlier_kept (x ∷ xs) r (suc i) h = earlier_kept xs r i (λ e. h (ap suc e))

-- ---- a time at or before the knot m is served by a segment that ends there or before
served_before : (ts : List Float) (t : Float) (m : ℕ) → m < length ts → (m ≡ 0 → ⊥) → le t (knot ts m) ≡ true → suc (segment_ending ts t) ≤ m
unfolding segment_by passes
served_before ts t zero h n e = absurd (n refl)
served_before ts t (suc m) h n e = let served : segment_ending ts t ≤ m = serves_before (by_rule ending t) ts m h e in omega arith

-- ---- before the knot before the last, any rate that is tried gives what the earlier ones give
module _ (tenors xs : List Float) (t : Float) (same : length tenors ≡ length xs + 1) (some : 1 < length tenors) where
  module _ (before : le t (knot tenors (length tenors - 2)) ≡ true) (inside : le (last_of tenors) t ≡ false) (r : Float) where
    between_kept : le t (knot tenors 0) ≡ false
        → along_zeros (ends_of tenors xs (segment_ending tenors t)) t ≡ along_zeros (ends_of tenors (with_rate xs r) (segment_ending tenors t)) t
    between_kept f =
        let later : length tenors - 2 ≡ 0 → ⊥ = λ z. never (le t (knot tenors 0)) (ap (λ (k : ℕ). le t (knot tenors k)) (sym z) ∙ before) f in
        let served : suc (segment_ending tenors t) ≤ length tenors - 2 = served_before tenors t (length tenors - 2) (omega arith) later before in
        let first = earlier_kept xs r (segment_ending tenors t) (λ e. omega arith) in
        let second = earlier_kept xs r (suc (segment_ending tenors t)) (λ e. omega arith) in
        rw (first, second)

    same_zero_rate : zero_rate_of tenors xs t ≡ zero_rate_of tenors (with_rate xs r) t
    unfolding zero_rate_of flat_outside
    same_zero_rate = rw inside (go (le t (knot tenors 0)) refl)
      where
        go : (b : Bool) → le t (knot tenors 0) ≡ b
            → cond b (knot xs 0) (along_zeros (ends_of tenors xs (segment_ending tenors t)) t) ≡ cond b (knot (with_rate xs r) 0) (along_zeros (ends_of tenors (with_rate xs r) (segment_ending tenors t)) t)
        go true f = earlier_kept xs r 0 (λ e. omega arith)
        go false f = between_kept f

    pub same_discount : discount_of tenors xs t ≡ discount_of tenors (with_rate xs r) t
    unfolding discount_of
    same_discount = rw same_zero_rate

-- ---- eight rates
module _ (xs rates : List Float) (i : ℕ) where
  abbrev knots : List Float
  knots = map (λ (r : Float). knot (with_rate xs r) i) rates

  pub each_tried : i ≡ length xs → rates ≡ knots
  each_tried e = sym (map_same rates) ∙ map_alike (λ (r : Float). r) (λ (r : Float). knot (with_rate xs r) i) (λ r. tried xs r i e) rates

  pub each_earlier : length rates ≡ 8 → (x : Float) → (i ≡ length xs → ⊥) → x ≡ knot xs i → replicate 8 x ≡ knots
  each_earlier eight x h e = copies 8 x rates eight ∙ map_alike (λ (r : Float). x) (λ (r : Float). knot (with_rate xs r) i) (λ r. e ∙ earlier_kept xs r i h) rates

pub each_past : (xs rates : List Float) (i : ℕ) → length rates ≡ 8 → (x : Float) → length xs ≤ i → x ≡ knot xs i → replicate 8 x ≡ map (λ (r : Float). knot (with_rate xs r) (suc i)) rates
each_past xs rates i eight x h e = copies 8 x rates eight ∙ map_alike (λ (r : Float). x) (λ (r : Float). knot (with_rate xs r) (suc i)) (λ r. e ∙ past_tried xs r i h) rates

-- their zero rates: flat before the first knot and past the last, and between them by the segment that ends at or after the time
module _ (tenors xs rates : List Float) (t : Float) where
  abbrev zero_rates_of : List Float
  zero_rates_of = map (λ (r : Float). zero_rate_of tenors (with_rate xs r) t) rates

  module _ (first : Float) (is_first : first ≡ knot tenors 0) where
    pub each_before : le t first ≡ true → map (λ (r : Float). knot (with_rate xs r) 0) rates ≡ zero_rates_of
    unfolding zero_rate_of
    each_before h =
        map_alike (λ (r : Float). knot (with_rate xs r) 0) (λ (r : Float). zero_rate_of tenors (with_rate xs r) t)
        (λ r. before_first tenors (with_rate xs r) t _ first is_first _ refl h) rates

    module _ (h : le t first ≡ false) (last : Float) (is_last : last ≡ last_of tenors) where
      pub each_after_lem : le last t ≡ true → rates ≡ zero_rates_of
      unfolding zero_rate_of
      each_after_lem g =
          sym (map_same rates)
          ∙ map_alike (λ (r : Float). r) (λ (r : Float). zero_rate_of tenors (with_rate xs r) t)
          (λ r. past_last tenors (with_rate xs r) t _ first is_first h last is_last r (last_tried xs r) g) rates

      pub each_between : le last t ≡ false → (i : ℕ) → i ≡ segment_ending tenors t → (a b : Float) → a ≡ knot tenors i → b ≡ knot tenors (suc i)
          → map (λ (r : Float). along_zeros (record { t0 = a; t1 = b; r0 = knot (with_rate xs r) i; r1 = knot (with_rate xs r) (suc i) }) t) rates ≡ zero_rates_of
      unfolding zero_rate_of
      each_between g i is_i a b is_a is_b =
          map_alike (λ (r : Float). along_zeros (record { t0 = a; t1 = b; r0 = knot (with_rate xs r) i; r1 = knot (with_rate xs r) (suc i) }) t) (λ (r : Float). zero_rate_of tenors (with_rate xs r) t)
          (λ r. inside tenors (with_rate xs r) t _ first is_first h last is_last _
          (ap (λ (e : Ends). along_zeros e t) (ends_are tenors (with_rate xs r) i _ _ _ _ (is_a, is_b, refl, refl) ∙ ap (ends_of tenors (with_rate xs r)) is_i)) g) rates

-- and their discount factors
pub each_discount : (tenors xs : List Float) (t : Float) (rates : List Float)
    → map exp (map (λ (x : Float). exponent_of x t) (map (λ (r : Float). zero_rate_of tenors (with_rate xs r) t) rates)) ≡ map (λ (r : Float). discount_of tenors (with_rate xs r) t) rates
each_discount tenors xs t [] = refl
each_discount tenors xs t (r ∷ rates) = ap₂ (λ (y : Float) (ys : List Float). y ∷ ys) (exp_is_discount tenors (with_rate xs r) t) (each_discount tenors xs t rates)
