-- `mortgage::pairs::pair_rows` meets its contract: after k turns k rows of each loan stand from its place, and each loan is k months on. Assumes nothing.
use Rattle.mortgage.specs.inner.Laying.{LaysPair}
use Rattle.mortgage.proofs.pairs.pair_rows.Given as goal

abbrev pub invariant-loop-k : goal.invariant-loop-k
invariant-loop-k l = LaysPair l.k l.a l.b l.initial.x l.initial.y l.initial.room l.x l.y l.room
