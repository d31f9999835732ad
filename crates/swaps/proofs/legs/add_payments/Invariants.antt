-- `swaps::legs::add_payments` meets its contract: each turn of the loop adds one period to the four sums. Assumes nothing.
use Rattle.std.proofs.Common.{◌≡◌, ℕ, ◌+◌, List, length}
use lib.Ieee.{Float}
use Rattle.swaps.specs.Periods.{Terms}
use Rattle.swaps.specs.inner.Runs.{Listed, FactorsOf, Summed}
use Rattle.swaps.proofs.legs.add_payments.Given as goal

abbrev pub invariant-loop-time : goal.invariant-loop-time
invariant-loop-time l = (t : Terms) (tenors zeros : List Float) (first : ℕ) → l.notional ≡ t.notional → l.rate ≡ t.rate → Listed t.periods first (length l.times) l.times l.fractions
    → FactorsOf t tenors zeros first (length l.times) l.factors → Summed t tenors zeros first l.initial.sums → Summed t tenors zeros (first + length l.yielded) l.sums
