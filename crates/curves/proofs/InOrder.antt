-- Knots in order: times that rise from zero or above to a finite one, with finite rates, give line 6 no cause. Assumes nothing.
use mathlib.Core.Path.{◌≡◌, refl, sym, ap, ◌∙◌}
use mathlib.Core.Bool.{Bool, true, false}
use mathlib.Core.List.{List, [], ◌∷◌}
use Prim.Native.Nat.{ℕ, zero, suc, ◌+◌, ◌-◌, ◌<◌, ◌≤◌}
use native.Mathlib.Nat.{zero-add}
use native.Mathlib.Numerals.{add-one}
use native.Mathlib.Omega.{arith}
use lib.ListN.{length}
use lib.Dec.{ltb}
use lib.Ieee.{Float, inf, lt, of_bits, binary64}
use lib.Ieee.Scale.{finite}
use Rattle.numbers.specs.Clamps.{plus_zero}
use Rattle.numbers.proofs.Comparing.{above_minus_infinity, finite_between, lt_trans}
use borrow.Author.Tests.{ltb-true, ltb-false}
use Rattle.refusals.specs.Outcome.{Outcome, accepted, judged}
use Rattle.refusals.specs.Table.{bad_knot, bad_knots}
use Rattle.curves.specs.Segments.{knot, last_of}
use Rattle.curves.proofs.KnotLine.{From, bad_at, at_start, goes_on, ended}

module _ (times rates : List Float) (same : length times ≡ length rates)
    (first : lt (knot times 0) plus_zero ≡ false) (first_rate : finite (knot rates 0) ≡ true) (last : lt (last_of times) (of_bits binary64 0x7ff0_0000_0000_0000) ≡ true)
    (later : (k : ℕ) → suc k < length times → (lt (knot times k) (knot times (suc k)) ≡ true) × (finite (knot rates (suc k)) ≡ true)) where
  not_below_lem : (k : ℕ) → k < length times → lt (knot times k) plus_zero ≡ false
  not_below_lem zero h = first
  not_below_lem (suc k) h = go (lt (knot times (suc k)) plus_zero) refl (not_below_lem k (omega arith))
    where
      go : (b : Bool) → lt (knot times (suc k)) plus_zero ≡ b → lt (knot times k) plus_zero ≡ false → b ≡ false
      go false e f = refl
      go true e f = sym (lt_trans (knot times k) (knot times (suc k)) plus_zero (later k h).0 e) ∙ f

  time_finite : (k : ℕ) → k < length times → finite (knot times k) ≡ true
  unfolding of_bits
  time_finite k h = go (ltb (suc k) (length times)) (ltb-true (suc k) (length times)) (ltb-false (suc k) (length times))
    where
      go : (b : Bool) → (b ≡ true → suc k < length times) → (b ≡ false → length times ≤ suc k) → finite (knot times k) ≡ true
      go true inner end = finite_between _ _ (not_below_lem k h) (later k (inner refl)).0
      go false inner end =
          let g : length times ≤ suc k = end refl in
          let e : length times - 1 ≡ k = omega arith in
          finite_between _ _ (not_below_lem k h) (ap (λ (n : ℕ). lt (knot times n) (inf false)) (sym e) ∙ last)

  rate_finite : (k : ℕ) → k < length times → finite (knot rates k) ≡ true
  rate_finite zero h = first_rate
  rate_finite (suc k) h = (later k h).1

  clear : (before : Float) (k : ℕ) → k < length times → lt before (knot times k) ≡ true → bad_at times rates before k ≡ false
  unfolding bad_knot
  clear before k h l = rw (time_finite k h, rate_finite k h, not_below_lem k h, l)

  rest : (d i : ℕ) → i + d ≡ length times → (before : Float) → (i < length times → lt before (knot times i) ≡ true) → From times rates before i ≡ accepted tt
  rest zero i e before l = ended times rates before i (omega arith)
  rest (suc d) i e before l =
      let h : i < length times = omega arith in
      let on : i + 1 + d ≡ length times = omega arith in
      goes_on times rates before i h same (clear before i h (l h))
      ∙ rest d (i + 1) on (knot times i) (λ g. ap (λ (n : ℕ). lt (knot times i) (knot times n)) (add-one i) ∙ (later i (next i (length times) g)).0)
    where
      next : (i n : ℕ) → i + 1 < n → suc i < n
      next i n g = omega arith

  pub in_order : 0 < length times → ◌≡◌ {A = Outcome Unit} (judged ((record { number = 6; causes = bad_knots times rates }) ∷ []) tt) (accepted tt)
  in_order h = at_start times rates ∙ rest (length times) 0 (zero-add (length times)) (inf true) (λ g. above_minus_infinity (knot times 0) (time_finite 0 g))
