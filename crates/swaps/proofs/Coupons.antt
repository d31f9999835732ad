-- The coupons of a par swap: a date, one coupon, and that the sum of the settled ones is the same whatever rate is tried. Assumes nothing.
use mathlib.Core.Path.{◌≡◌, refl, sym, ap, ◌∙◌}
use mathlib.Core.Bool.{Bool, true, false, cond}
use mathlib.Core.List.{List}
use Prim.Native.Nat.{ℕ, zero, suc, ◌+◌, ◌-◌, ◌<◌}
use native.Mathlib.Numerals.{add-one}
use native.Mathlib.Omega.{arith}
use lib.IntN.{pos}
use lib.ListN.{length}
use lib.Dec as dec
use lib.Ieee.{Float, nan, inf, fin, binary64, sub, mul, lt, le, fits, of_int, of_bits}
use lib.Ieee.Fits.{of_int-fits}
use Rattle.numbers.specs.Literals.{one}
use Rattle.numbers.specs.Clamps.{lowered}
use Rattle.numbers.specs.Sums.{added_up}
use Rattle.numbers.proofs.Sums.{same_added}
use Rattle.numbers.proofs.Comparing.{clash, compared_itself}
use Rattle.elementary.proofs.Unrounded.{mul_one}
use Rattle.curves.specs.Segments.{knot, last_of}
use Rattle.curves.specs.Runs.{date_after}
use Rattle.swaps.specs.Discount.{discount_of}
use Rattle.swaps.specs.Bootstrap.{date, coupon_at}
use Rattle.swaps.specs.inner.Knots.{with_rate, WholeTo, SettledTo}
use Rattle.swaps.proofs.TriedRates.{same_discount}

pub later_date : (T : Float) (k : ℕ) → (k ≡ 0 → ⊥) → lowered (of_int binary64 (pos k)) T ≡ date T k
unfolding date
later_date T zero h = absurd (h refl)
later_date T (suc k) h = refl

module _ (tenors zeros : List Float) (T c : Float) (k : ℕ) where
  abbrev whole : Float
  whole = of_int binary64 (pos (k + 1))

  date_is : (b : Bool) → lt whole T ≡ b → date T (suc k) ≡ cond b whole T
  unfolding date
  date_is b e = rw (sym (add-one k), e)

  coupon_is : (b : Bool) → lt whole T ≡ b → (before factor : Float) → before ≡ date T k → factor ≡ discount_of tenors zeros (cond b whole T)
      → mul binary64 (mul binary64 c (sub binary64 (cond b whole T) before)) factor ≡ coupon_at tenors zeros T c k
  unfolding coupon_at
  coupon_is b e before factor is_before is_factor = rw (date_is b e, is_before, is_factor)

  pub coupon_before : (before factor : Float) → lt whole T ≡ true → before ≡ date T k → factor ≡ discount_of tenors zeros whole
      → mul binary64 (mul binary64 c (sub binary64 whole before)) factor ≡ coupon_at tenors zeros T c k
  coupon_before before factor e b f = coupon_is true e before factor b f

  pub coupon_at_tenor : (before last : Float) → lt whole T ≡ false → before ≡ date T k → last ≡ discount_of tenors zeros T
      → mul binary64 (mul binary64 c (sub binary64 T before)) last ≡ coupon_at tenors zeros T c k
  coupon_at_tenor before last e b f = coupon_is false e before last b f

ends_there : (T : Float) (k : ℕ) → lt (of_int binary64 (pos (suc k))) T ≡ false → date T (suc k) ≡ T
unfolding date
ends_there T k e = rw e

-- where a date is settled there is a knot before
some_before : (count n k : ℕ) → (count < 2 → n ≡ 0) → k < n → 1 < count
some_before zero n k h less = let e = h (omega arith) in absurd (omega arith)
some_before (suc zero) n k h less = let e = h (omega arith) in absurd (omega arith)
some_before (suc (suc count)) n k h less = omega arith

module _ (tenors earlier : List Float) (T c : Float) (n : ℕ) (same : length tenors ≡ length earlier + 1) (last : T ≡ last_of tenors) where
  module _ (settled : SettledTo T (knot tenors (length tenors - 2)) n) (none : length tenors < 2 → n ≡ 0) (r : Float) where
    same_coupon : (k : ℕ) → k < n → coupon_at tenors earlier T c k ≡ coupon_at tenors (with_rate earlier r) T c k
    unfolding coupon_at
    same_coupon k h =
        let f = settled k h in
        let inside = ap (λ (x : Float). le x (date T (suc k))) (sym last) ∙ f.1 in
        rw (same_discount tenors earlier (date T (suc k)) same (some_before (length tenors) n k none h) f.0 inside r)

    pub settled_sum : added_up (coupon_at tenors earlier T c) n ≡ added_up (coupon_at tenors (with_rate earlier r) T c) n
    settled_sum = same_added _ _ n same_coupon

-- ---- a settled date is whole: else it would be the tenor, which is not before itself
pub settled_whole : (T previous : Float) (n : ℕ) → SettledTo T previous n → WholeTo T n
settled_whole T previous n settled k h = go (lt (of_int binary64 (pos (suc k))) T) refl
  where
    at_tenor : lt (of_int binary64 (pos (suc k))) T ≡ false → date T (suc k) ≡ T
    at_tenor e = ends_there T k e

    go : (b : Bool) → lt (of_int binary64 (pos (suc k))) T ≡ b → b ≡ true
    go true e = refl
    go false e =
        let f = settled k h in
        let before : le T previous ≡ true = ap (λ (d : Float). le d previous) (sym (at_tenor e)) ∙ f.0 in
        let beyond : le T T ≡ false = ap (λ (d : Float). le T d) (sym (at_tenor e)) ∙ f.1 in
        clash (sym beyond ∙ compared_itself T previous before)

-- ---- the coupons of whole dates, whose discount factors are at hand
times_one : (x : Float) → dec.T (fits binary64 x) → mul binary64 x one ≡ x
unfolding mul of_bits
times_one nan t = refl
times_one (inf true) t = refl
times_one (inf false) t = refl
times_one (fin s m e) t = mul_one (fin s m e) t tt

pub whole_coupon : (tenors zeros : List Float) (T c : Float) (first j k : ℕ) → k ≡ first + j → lt (of_int binary64 (pos (suc k))) T ≡ true → (before factor : Float)
    → before ≡ date T k → factor ≡ discount_of tenors zeros (date_after one (first + j))
    → mul binary64 (mul binary64 c (sub binary64 (of_int binary64 (pos (k + 1))) before)) factor ≡ coupon_at tenors zeros T c k
whole_coupon tenors zeros T c first j k at less before factor b f =
    coupon_before tenors zeros T c k before factor (ap (λ (n : ℕ). lt (of_int binary64 (pos n)) T) (add-one k) ∙ less) b
    (f ∙ ap (discount_of tenors zeros) (times_one _ (of_int-fits binary64 (pos (suc (first + j)))) ∙ ap (λ (n : ℕ). of_int binary64 (pos n)) (ap suc (sym at) ∙ sym (add-one k))))
