-- `swaps::knots::settled_dates` meets its contract: every date passed is settled. Assumes nothing.
use Rattle.swaps.specs.inner.Knots.{SettledTo}
use Rattle.swaps.proofs.knots.settled_dates.Given as goal

abbrev pub invariant-loop-k : goal.invariant-loop-k
invariant-loop-k l = SettledTo l.tenor l.previous l.k
