-- `bond::worked::Worked::add_flows` meets its contract: each turn of the loop adds one term. Assumes nothing.
use mathlib.Core.Path.{◌≡◌}
use Prim.Native.Nat.{ℕ, suc, ◌-◌}
use Rattle.numbers.specs.Sums.{added_up}
use Rattle.bond.specs.inner.Weighted.{weighted_by}
use Rattle.bond.proofs.worked.Worked.add_flows.Given as goal

abbrev pub invariant-loop-t : goal.invariant-loop-t
invariant-loop-t l = l.sum ≡ added_up (λ (i : ℕ). weighted_by l.self.bond l.r l.squares (suc i)) (l.t - 1)
