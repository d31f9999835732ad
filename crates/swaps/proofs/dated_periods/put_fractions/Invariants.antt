-- `swaps::dated_periods::put_fractions` meets its contract: the fractions passed are written. Assumes nothing.
use Rattle.swaps.specs.inner.Runs.{FractionsOf}
use Rattle.swaps.proofs.dated_periods.put_fractions.Given as goal

abbrev pub invariant-loop-j : goal.invariant-loop-j
invariant-loop-j l = FractionsOf l.day_count l.days l.j l.fractions
