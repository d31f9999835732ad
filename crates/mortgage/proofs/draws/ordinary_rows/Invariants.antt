-- `mortgage::draws::ordinary_rows` meets its contract: after k turns the room begins with k rows and the loan is k months on. Assumes nothing.
use Rattle.mortgage.specs.inner.Laying.{LaysOn}
use Rattle.mortgage.proofs.draws.ordinary_rows.Given as goal

abbrev pub invariant-loop-k : goal.invariant-loop-k
invariant-loop-k l = LaysOn l.course l.k l.initial.l l.initial.room l.l l.room
