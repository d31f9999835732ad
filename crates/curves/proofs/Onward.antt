-- A time that is past the first segments of a curve: none of them serves it, and none serves a later time. So a search may go on from there, on any times at all. Assumes nothing.
use mathlib.Core.Path.{◌≡◌, refl, sym, ap, ◌∙◌, subst}
use mathlib.Core.Logic.{◌⊎◌, ⊎_elim}
use mathlib.Core.Bool.{Bool, true, false}
use mathlib.Core.List.{List, [], ◌∷◌}
use Prim.Native.Nat.{ℕ, zero, suc, ◌+◌, ◌<◌, ◌≤◌}
use native.Mathlib.Numerals.{add-one}
use native.Mathlib.Omega.{arith}
use lib.Dec.{ltb}
use lib.ListN.{length}
use lib.Ieee.{Float, nan, inf, fin, le, lt, eq}
use borrow.Author.Count.{below_more}
use borrow.Author.Tests.{ltb-true, ltb-false}
use Rattle.numbers.proofs.Comparing.{clash, lt_le, lt_trans, still_beyond}
use Rattle.curves.specs.Segments.{knot}
use Rattle.curves.specs.inner.Halving.{Rule, ending, starting, segment_by, passes, Past}
use Rattle.curves.proofs.Serving.{by_rule, serves_before, end_passes, serves_inside, none_serves, fails_before}

-- a later time fails where an earlier one does
still_fails : (rule : Rule) (before t end : Float) → lt before t ≡ true → passes rule before end ≡ false → passes rule t end ≡ false
unfolding passes
still_fails ending before t end l f = still_beyond before t end (lt_le before t l) f
still_fails starting before t end l f = go (lt t end) refl
  where
    go : (b : Bool) → lt t end ≡ b → b ≡ false
    go false e = refl
    go true e = clash (sym f ∙ lt_trans before t end l e)

-- no time serves where there is no knot
no_knot : (rule : Rule) (t : Float) → passes rule t nan ≡ false
unfolding passes le lt eq
no_knot ending nan = refl
no_knot ending (inf s) = refl
no_knot ending (fin s m e) = refl
no_knot starting nan = refl
no_knot starting (inf s) = refl
no_knot starting (fin s m e) = refl

passes_inside : (rule : Rule) (t : Float) (ts : List Float) (i : ℕ) → passes rule t (knot ts i) ≡ true → i < length ts
passes_inside rule t [] i p = clash (sym (no_knot rule t) ∙ p)
passes_inside rule t (a ∷ ts) zero p = omega arith
passes_inside rule t (a ∷ ts) (suc i) p = let h = passes_inside rule t ts i p in omega arith

module _ (rule : Rule) (times : List Float) where
  pub past_none : (t : Float) → Past rule times t 0
  past_none t j h = absurd (omega arith)

  pub later_too : (before t : Float) (i : ℕ) → lt before t ≡ true → Past rule times before i → Past rule times t i
  later_too before t i l past j h = still_fails rule before t (knot times (suc j)) l (past j h)

  module _ (t : Float) where
    -- from a place, or from the first
    pub started : (from i : ℕ) → Past rule times t from → (i ≡ from) ⊎ (i ≡ 0) → Past rule times t i
    started from i past = ⊎_elim (λ e. subst (Past rule times t) (sym e) past) (λ e. subst (Past rule times t) (sym e) (past_none t))

    pub one_further : (i : ℕ) → Past rule times t i → passes rule t (knot times (i + 1)) ≡ false → Past rule times t (i + 1)
    one_further i past f = below_more (λ (j : ℕ). passes rule t (knot times (suc j)) ≡ false) i past (ap (λ (n : ℕ). passes rule t (knot times n)) (sym (add-one i)) ∙ f)

    not_before : (i : ℕ) → i < length times → Past rule times t i → i ≤ segment_by rule times t
    not_before i h past = go (ltb (segment_by rule times t) i) (ltb-true (segment_by rule times t) i) (ltb-false (segment_by rule times t) i)
      where
        go : (b : Bool) → (b ≡ true → segment_by rule times t < i) → (b ≡ false → i ≤ segment_by rule times t) → i ≤ segment_by rule times t
        go false early at = at refl
        go true early at =
            let l : segment_by rule times t < i = early refl in
            clash (sym (past (segment_by rule times t) l) ∙ end_passes (by_rule rule t) times (omega arith))

    pub found_here : (i : ℕ) → i + 1 < length times → Past rule times t i → passes rule t (knot times (i + 1)) ≡ true → i ≡ segment_by rule times t
    found_here i h past p =
        let low = not_before i (omega arith) past in
        let high = serves_before (by_rule rule t) times i (omega arith) (ap (λ (n : ℕ). passes rule t (knot times n)) (sym (add-one i)) ∙ p) in
        omega arith

    -- the segment of an earlier time serves where its end still passes
    pub still_found : (before : Float) (i : ℕ) → lt before t ≡ true → Past rule times before i → passes rule t (knot times (suc i)) ≡ true → i ≡ segment_by rule times t
    still_found before i l past p =
        let h = passes_inside rule t times (suc i) p in
        found_here i (omega arith) (later_too before t i l past) (ap (λ (n : ℕ). passes rule t (knot times n)) (add-one i) ∙ p)

    pub found_last : (i : ℕ) → i ≤ length times → (0 < length times → i < length times) → length times ≤ i + 1 → Past rule times t i → i ≡ segment_by rule times t
    found_last i most inside h past = go (ltb 0 (length times)) (ltb-true 0 (length times)) (ltb-false 0 (length times))
      where
        go : (b : Bool) → (b ≡ true → 0 < length times) → (b ≡ false → length times ≤ 0) → i ≡ segment_by rule times t
        go true more none =
            let g : 0 < length times = more refl in
            let low = not_before i (inside g) past in
            let high = serves_inside (by_rule rule t) times g in
            omega arith
        go false more none =
            let n : length times ≤ 0 = none refl in
            let z = none_serves (by_rule rule t) times (omega arith) in
            omega arith

    -- and a segment that serves has none before it that does
    pub past_served : Past rule times t (segment_by rule times t)
    past_served = fails_before (by_rule rule t) times

-- what the search from a segment on cites
pub ruleset going_on = (started, one_further, found_here, found_last)
