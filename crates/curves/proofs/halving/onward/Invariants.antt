-- `curves::halving::onward` meets its contract: the time is past every segment before the one in hand. Assumes nothing.
use Rattle.curves.specs.inner.Halving.{Past}
use Rattle.curves.proofs.halving.onward.Given as goal

abbrev pub invariant-loop-i : goal.invariant-loop-i
invariant-loop-i g l = Past g.S.Serving.rule l.times l.t l.from → Past g.S.Serving.rule l.times l.t l.i
