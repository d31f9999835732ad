-- `swaps::runs::put_undated` meets its contract: the times passed are written. Assumes nothing.
use Rattle.std.proofs.Common.{◌≡◌, ℕ, ◌+◌, ◌<◌, pos}
use lib.Ieee.{binary64, mul, of_int}
use Rattle.curves.specs.Segments.{knot}
use Rattle.swaps.proofs.runs.put_undated.Given as goal

abbrev pub invariant-loop-j : goal.invariant-loop-j
invariant-loop-j l = (i : ℕ) → i < l.j → knot l.times i ≡ mul binary64 (of_int binary64 (pos (l.first + i + 1))) l.dt
