-- `spread_analytics::flows::put_each` meets its contract: after i turns the first i values are put. Assumes nothing.
use Rattle.std.proofs.Common.{◌≡◌, ℕ, suc, Float}
use Rattle.steps.proofs.Places.{Put}
use Rattle.spread_analytics.proofs.flows.put_each.Given as goal

abbrev pub invariant-loop-i : goal.invariant-loop-i
invariant-loop-i g l = (f : ℕ → Float) → ((i : ℕ) (r : Float) → goal.F-post g l.value i r → r ≡ f i) → Put (λ (i : ℕ). f (suc i)) l.initial.room l.i l.room
