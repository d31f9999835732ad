-- `mortgage::years::enter_rows` meets its contract: after k rows, whole years or parts of them, the lines are those of k rows entered one by one. Assumes nothing.
use mathlib.Core.Path.{◌≡◌}
use Prim.Native.Nat.{◌-◌, ◌≤◌}
use Rattle.mortgage.specs.Years.{entered_up_to}
use Rattle.mortgage.specs.inner.RoomRows.{rows_from}
use Rattle.mortgage.proofs.years.enter_rows.Given as goal

abbrev pub invariant-loop-k : goal.invariant-loop-k
invariant-loop-k l = (l.years ≡ entered_up_to (rows_from l.room 0 l.done) l.k l.initial.years) × (l.k ≤ l.count)

abbrev pub decreases-loop-k : goal.decreases-loop-k
decreases-loop-k l = l.count - l.k
