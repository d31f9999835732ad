-- `curves::runs::put_dates` meets its contract: the places passed hold their dates. Assumes nothing.
use Rattle.std.proofs.Common.{◌≡◌, ℕ, ◌+◌, ◌<◌}
use Rattle.curves.specs.Segments.{knot}
use Rattle.curves.specs.Runs.{date_after}
use Rattle.curves.proofs.runs.put_dates.Given as goal

abbrev pub invariant-loop-j : goal.invariant-loop-j
invariant-loop-j l = (k : ℕ) → k < l.j → knot l.dates k ≡ date_after l.dt (l.first + k)
