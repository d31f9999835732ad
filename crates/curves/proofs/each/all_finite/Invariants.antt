-- `curves::each::all_finite` meets its contract: each number passed is finite exactly where none was counted. Assumes nothing.
use Rattle.std.proofs.Common.{◌≡◌, true, ℕ, ◌<◌, ◌≤◌, get_or}
use Rattle.std.specs.Float.{nan}
use Rattle.std.specs.Float.Ieee.Scale.{finite}
use Rattle.curves.proofs.each.all_finite.Given as goal

abbrev pub invariant-loop-t : goal.invariant-loop-t
invariant-loop-t l = (l.faults ≤ l.t-index)
    × (l.faults ≡ 0 → (k : ℕ) → k < l.t-index → finite (get_or l.asked k nan) ≡ true)
    × (((k : ℕ) → k < l.t-index → finite (get_or l.asked k nan) ≡ true) → l.faults ≡ 0)
