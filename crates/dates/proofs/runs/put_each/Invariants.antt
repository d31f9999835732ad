-- `dates::runs::put_each` meets its contract: each turn writes one place more. Assumes nothing.
use Rattle.std.proofs.Common.{ℕ, ◌<◌}
use Rattle.dates.specs.DayLists.{entry}
use Rattle.dates.proofs.runs.put_each.Given as goal

abbrev pub invariant-loop-j : goal.invariant-loop-j
invariant-loop-j g l = (j : ℕ) → j < l.j → goal.F-post g l.value j (entry l.places j)
