-- What a verdict leaves in the lent room: a refusal nothing, an acceptance the months. Assumes nothing.
use mathlib.Core.Path.{◌≡◌, refl, sym, ap}
use mathlib.Core.List.{List}
use Prim.Native.Nat.{ℕ}
use native.Mathlib.Omega.{arith}
use lib.Ieee.{Float}
use Rattle.refusals.specs.Outcome.{Outcome, refused, accepted, Line, judged}
use Rattle.refusals.specs.Places.{placed}
use Rattle.refusals.proofs.Placing.{accepted_itself}
use Rattle.refusals.proofs.Verdicts.{verdict, refused_alike, accepted_alike}
use Rattle.steps.specs.Steps.{laid}
use Rattle.records.specs.declared.Terms.{Terms}
use Rattle.pool.specs.declared.speed.Speed.{Speed}
use Rattle.pool.specs.Flows.{month_width, first_months, flows_into_by}

module _ (ls : List Line) (v : ℕ) (loans : List Terms) (speed : Speed) (history room : List Float) where
  pub untouched : (k p : ℕ) → refused k p ≡ placed (verdict ls) → flows_into_by (judged ls v) loans speed history room ≡ room
  unfolding placed
  untouched k p e = go (verdict ls) refl e
    where
      go : (o : Outcome Unit) → o ≡ verdict ls → refused k p ≡ placed o → flows_into_by (judged ls v) loans speed history room ≡ room
      go (refused j q) d g = sym (ap (λ (o : Outcome ℕ). flows_into_by o loans speed history room) (refused_alike ls v j q d))
      go (accepted u) d g = let z : ◌≡◌ {A = ℕ} 0 1 = cc in absurd (omega arith)

  pub written : accepted tt ≡ placed (verdict ls) → flows_into_by (judged ls v) loans speed history room ≡ laid month_width v (first_months loans speed history v) room
  written e = sym (ap (λ (o : Outcome ℕ). flows_into_by o loans speed history room) (accepted_alike ls v (accepted_itself (verdict ls) e)))
