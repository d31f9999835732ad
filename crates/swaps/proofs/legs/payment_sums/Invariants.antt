-- `swaps::legs::payment_sums` meets its contract: after each run its periods are in the sums. Assumes nothing.
use Rattle.std.proofs.Common.{min}
use Rattle.swaps.specs.Periods.{terms_of}
use Rattle.swaps.specs.inner.Runs.{SummedOnBoth}
use Rattle.swaps.proofs.legs.payment_sums.Given as goal

abbrev pub invariant-loop-k : goal.invariant-loop-k
invariant-loop-k l = SummedOnBoth (terms_of l.swap) l.tenors l.zeros l.higher l.both (min l.k l.count) l.sums
