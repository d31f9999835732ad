-- `curves::curve::no_faults` meets its contract: no knot before the one in hand has a fault, where none was counted. Assumes nothing.
use Rattle.std.proofs.Common.{◌≡◌, true, ℕ, suc, ◌*◌, ◌<◌, ◌≤◌}
use Rattle.std.specs.Float.Ieee.{lt}
use Rattle.std.specs.Float.Ieee.Scale.{finite}
use Rattle.curves.specs.Segments.{knot}
use Rattle.curves.proofs.curve.no_faults.Given as goal

abbrev pub invariant-loop-i : goal.invariant-loop-i
invariant-loop-i l = (l.faults ≤ 2 * l.i)
    × (l.faults ≡ 0 → (k : ℕ) → suc k < l.i → (lt (knot l.times k) (knot l.times (suc k)) ≡ true) × (finite (knot l.rates (suc k)) ≡ true))
