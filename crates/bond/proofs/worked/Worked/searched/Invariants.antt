-- `bond::worked::Worked::searched` meets its contract: each turn of the loop is a pass of the definition. Assumes nothing.
use mathlib.Core.Path.{◌≡◌}
use Prim.Native.Nat.{◌-◌}
use Rattle.bond.specs.Yield.{searched}
use Rattle.bond.proofs.worked.Worked.searched.Given as goal

abbrev pub invariant-loop-done : goal.invariant-loop-done
invariant-loop-done l = searched l.self.bond l.market 200 l.initial.search ≡ searched l.self.bond l.market (200 - l._done) l.search
