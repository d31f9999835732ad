-- `elementary::whole::usually_whole` meets its contract: wherever the guess comes from, one that is x itself is the nearest. Assumes nothing.
use Rattle.std.proofs.Common.{arith}
use Rattle.elementary.proofs.WholeExponents.{itself}
use Rattle.elementary.proofs.whole.usually_whole.Goals as goal

pub returns-then-from-x : goal.returns-then-from-x
returns-then-from-x c = itself _ _ (omega arith) (rw c.from.ensures at c.if-from-x.true)
