-- A result says its refusal: the number is its low half, the place its high half, and it is 0 only where the call was accepted. So where a call is refused by the table's rule,
-- its result says so exactly when the rule does. Assumes nothing.
use mathlib.Core.Path.{◌≡◌, refl, subst}
use mathlib.Core.Logic.{◌↔◌}
use mathlib.Core.Bool.{Bool}
use mathlib.Core.List.{List}
use Prim.Native.Nat.{ℕ, ◌<◌, ◌%◌, ◌/◌}
use native.Mathlib.Omega.{arith}
use lib.Dec.{T}
use Rattle.refusals.specs.Outcome.{Outcome, refused, accepted, Line, Lowest, ExactlyWhen}
use Rattle.refusals.proofs.NumbersWithin.{between, within}
use Rattle.senyolanda.specs.Told.{refusal_result, told}

pub number_said : (k p : ℕ) → k < 0x1_0000_0000 → refusal_result k p % 0x1_0000_0000 ≡ k
number_said k p h = omega arith

pub place_said : (k p : ℕ) → k < 0x1_0000_0000 → refusal_result k p / 0x1_0000_0000 ≡ p
place_said k p h = omega arith

pub never_0 : (k p : ℕ) → 0 < k → ¬ (refusal_result k p ≡ 0)
never_0 k p h e = omega arith

-- ---- lines whose numbers the low half holds, and are not 0
abbrev sayable : List Line → Bool
sayable = between 0 0x1_0000_0000

module _ {A B : Type 0} (ls : List Line) (small : T (sayable ls)) (laid : A → B) (before : B) where
  -- the result is that of refusal k at p exactly when k at p is the table's lowest
  pub result_exactly : (o : Outcome A) → ExactlyWhen ls o → (k p : ℕ) → 0 < k → k < 0x1_0000_0000 → ((told laid o before).0 ≡ refusal_result k p) ↔ Lowest ls k p
  unfolding told
  result_exactly (accepted v) ex k p low high = (
    λ e. absurd (never_0 k p low (sym' e)),
    λ w. absurd (different v k p ((ex k p).1 w)),
  )
    where
      sym' : 0 ≡ refusal_result k p → refusal_result k p ≡ 0
      sym' e = omega arith

      different : (v : A) (k p : ℕ) → ◌≡◌ {A = Outcome A} (accepted v) (refused k p) → ⊥
      different v k p e = let z : ◌≡◌ {A = ℕ} 0 1 = cc in omega arith
  result_exactly (refused j q) ex k p low high =
      let own = (ex j q).0 refl in
      let size = within 0 0x1_0000_0000 ls j q small own.applies in (
        λ e. (
            let n : j ≡ k = omega arith in
            let at : q ≡ p = omega arith in
            subst (λ (i : ℕ). Lowest ls i p) n (subst (λ (i : ℕ). Lowest ls j i) at own)
            ),
        λ w. (
            let e = (ex k p).1 w in
            let n : j ≡ k = cc in
            let at : q ≡ p = cc in
            omega arith
            ),
      )

  -- and 0 exactly when no line has a cause
  pub accepted_exactly : (o : Outcome A) → ExactlyWhen ls o → ((told laid o before).0 ≡ 0) ↔ ((k p : ℕ) → ¬ Lowest ls k p)
  unfolding told
  accepted_exactly (accepted v) ex = (λ e k p w. (let d = (ex k p).1 w in let z : ◌≡◌ {A = ℕ} 0 1 = cc in omega arith), λ free. refl)
  accepted_exactly (refused j q) ex =
      let own = (ex j q).0 refl in (
        λ e. absurd (never_0 j q (within 0 0x1_0000_0000 ls j q small own.applies).0 e),
        λ free. absurd (free j q own),
      )
