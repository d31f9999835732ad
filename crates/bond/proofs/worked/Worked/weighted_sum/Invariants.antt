-- `bond::worked::Worked::weighted_sum` meets its contract: each turn of the loop adds the terms of one block, and the last term comes last. Assumes nothing.
use mathlib.Core.Path.{◌≡◌}
use Prim.Native.Nat.{ℕ, suc, ◌-◌, ◌≤◌}
use Rattle.numbers.specs.Sums.{added_up}
use Rattle.bond.specs.inner.Weighted.{weighted_by}
use Rattle.bond.proofs.worked.Worked.weighted_sum.Given as goal

abbrev pub invariant-loop-t : goal.invariant-loop-t
invariant-loop-t l = (1 ≤ l.t) × (l.t ≤ l.self.count) × (l.sum ≡ added_up (λ (i : ℕ). weighted_by l.self.bond l.r l.squares (suc i)) (l.t - 1))

abbrev pub decreases-loop-t : goal.decreases-loop-t
decreases-loop-t l = l.self.count - l.t
