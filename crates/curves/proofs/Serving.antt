-- The first segment whose end passes a test, for any test that passes later knots too, on times that rise: what serves stands at or before a knot that passes, and not before one that does not. Assumes nothing.
use mathlib.Core.Path.{◌≡◌, refl, sym, ap, ◌∙◌}
use mathlib.Core.Bool.{Bool, true, false, cond}
use mathlib.Core.List.{List, [], ◌∷◌}
use Prim.Native.Nat.{ℕ, zero, suc, ◌+◌, ◌-◌, ◌<◌, ◌≤◌}
use native.Mathlib.Nat.{add-zero}
use native.Mathlib.Omega.{arith}
use lib.Dec.{ltb}
use lib.ListN.{length}
use lib.Ieee.{Float, lt}
use borrow.Author.Tests.{ltb-true, ltb-false}
use Rattle.numbers.proofs.Comparing.{clash, lt_trans, le_lt_trans}
use Rattle.curves.specs.Segments.{knot, segment_ending, segment_starting, Rising}
use Rattle.curves.specs.inner.Halving.{Rule, ending, starting, segment_by, passes}

-- the first segment, from 0, whose end passes; the last knot where none does
pub record FirstPassing (test : Float → Bool) (serving : List Float → ℕ) : Type 0 where
  pub none : serving [] ≡ 0
  pub single : (a : Float) → serving (a ∷ []) ≡ 0
  pub first : (a b : Float) (ts : List Float) → serving (a ∷ b ∷ ts) ≡ cond (test b) 0 (suc (serving (b ∷ ts)))
  pub later : (a b : Float) → test a ≡ true → lt a b ≡ true → test b ≡ true

-- either rule is one
pub by_rule : (rule : Rule) (t : Float) → FirstPassing (passes rule t) (λ (ts : List Float). segment_by rule ts t)
unfolding passes segment_by segment_ending segment_starting
by_rule ending t = record { none = refl; single = λ a. refl; first = λ a b ts. refl; later = λ a b. le_lt_trans t a b }
by_rule starting t = record { none = refl; single = λ a. refl; first = λ a b ts. refl; later = λ a b. lt_trans t a b }

module _ {test : Float → Bool} {serving : List Float → ℕ} (rule : FirstPassing test serving) where
  -- the segment that serves ends at or before a knot that passes
  pub serves_before : (ts : List Float) (m : ℕ) → suc m < length ts → test (knot ts (suc m)) ≡ true → serving ts ≤ m
  serves_before [] m h p = absurd (omega arith)
  serves_before (a ∷ []) m h p = absurd (omega arith)
  serves_before (a ∷ b ∷ ts) zero h p = let z : serving (a ∷ b ∷ ts) ≡ 0 = rule.first a b ts ∙ rw p in omega arith
  serves_before (a ∷ b ∷ ts) (suc m) h p = go (test b) refl (serves_before (b ∷ ts) m (omega arith) p)
    where
      go : (t : Bool) → test b ≡ t → serving (b ∷ ts) ≤ m → serving (a ∷ b ∷ ts) ≤ suc m
      go true e ih = let z : serving (a ∷ b ∷ ts) ≡ 0 = rule.first a b ts ∙ rw e in omega arith
      go false e ih = let z : serving (a ∷ b ∷ ts) ≡ suc (serving (b ∷ ts)) = rule.first a b ts ∙ rw e in omega arith

  -- its end passes, where it has one
  pub end_passes : (ts : List Float) → suc (serving ts) < length ts → test (knot ts (suc (serving ts))) ≡ true
  end_passes [] h = absurd (omega arith)
  end_passes (a ∷ []) h = absurd (omega (arith, rule.single a))
  end_passes (a ∷ b ∷ ts) h = go (test b) refl (end_passes (b ∷ ts))
    where
      go : (t : Bool) → test b ≡ t → (suc (serving (b ∷ ts)) < length (b ∷ ts) → test (knot (b ∷ ts) (suc (serving (b ∷ ts)))) ≡ true)
          → test (knot (a ∷ b ∷ ts) (suc (serving (a ∷ b ∷ ts)))) ≡ true
      go true e ih = let z : serving (a ∷ b ∷ ts) ≡ 0 = rule.first a b ts ∙ rw e in ap (λ (n : ℕ). test (knot (a ∷ b ∷ ts) (suc n))) z ∙ e
      go false e ih =
          let z : serving (a ∷ b ∷ ts) ≡ suc (serving (b ∷ ts)) = rule.first a b ts ∙ rw e in
          ap (λ (n : ℕ). test (knot (a ∷ b ∷ ts) (suc n))) z ∙ ih (omega arith)

  pub serves_inside : (ts : List Float) → 0 < length ts → serving ts < length ts
  serves_inside [] h = absurd (omega arith)
  serves_inside (a ∷ []) h = omega (arith, rule.single a)
  serves_inside (a ∷ b ∷ ts) h = go (test b) refl (serves_inside (b ∷ ts) (omega arith))
    where
      go : (t : Bool) → test b ≡ t → serving (b ∷ ts) < length (b ∷ ts) → serving (a ∷ b ∷ ts) < length (a ∷ b ∷ ts)
      go true e ih = let z : serving (a ∷ b ∷ ts) ≡ 0 = rule.first a b ts ∙ rw e in omega arith
      go false e ih = let z : serving (a ∷ b ∷ ts) ≡ suc (serving (b ∷ ts)) = rule.first a b ts ∙ rw e in omega arith

  pub none_serves : (ts : List Float) → length ts ≡ 0 → serving ts ≡ 0
  none_serves [] e = rule.none
  none_serves (a ∷ ts) e = absurd (omega arith)

  -- no segment before it has an end that passes
  pub fails_before : (ts : List Float) (j : ℕ) → j < serving ts → test (knot ts (suc j)) ≡ false
  fails_before ts j h = go (ltb 0 (length ts)) (ltb-true 0 (length ts)) (ltb-false 0 (length ts)) (test (knot ts (suc j))) refl
    where
      go : (s : Bool) → (s ≡ true → 0 < length ts) → (s ≡ false → length ts ≤ 0) → (b : Bool) → test (knot ts (suc j)) ≡ b → b ≡ false
      go s more none false e = refl
      go true more none true e =
          let inside = serves_inside ts (more refl) in
          let early = serves_before ts j (omega arith) e in
          absurd (omega arith)
      go false more none true e =
          let n : length ts ≤ 0 = none refl in
          let z = none_serves ts (omega arith) in
          absurd (omega arith)

  module _ (times : List Float) (rises : Rising times) where
    pub passes_on : (d i : ℕ) → i + d < length times → test (knot times i) ≡ true → test (knot times (i + d)) ≡ true
    passes_on zero i h p = ap (λ (n : ℕ). test (knot times n)) (add-zero i) ∙ p
    passes_on (suc d) i h p =
        let e : i + suc d ≡ suc (i + d) = omega arith in
        ap (λ (n : ℕ). test (knot times n)) e ∙ rule.later _ _ (passes_on d i (omega arith) p) (rises (i + d) (omega arith))

    -- a knot that does not pass is at or before the segment that serves
    pub serves_after : (m : ℕ) → m < length times → test (knot times m) ≡ false → m ≤ serving times
    serves_after m h p = go (ltb (serving times) m) (ltb-true (serving times) m) (ltb-false (serving times) m)
      where
        go : (t : Bool) → (t ≡ true → serving times < m) → (t ≡ false → m ≤ serving times) → m ≤ serving times
        go false early at = at refl
        go true early at =
            let l : serving times < m = early refl in
            let e : suc (serving times) + (m - suc (serving times)) ≡ m = omega arith in
            clash (sym p ∙ ap (λ (n : ℕ). test (knot times n)) (sym e) ∙ passes_on (m - suc (serving times)) (suc (serving times)) (omega arith) (end_passes times (omega arith)))
