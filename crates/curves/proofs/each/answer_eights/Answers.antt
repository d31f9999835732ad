-- `curves::each::answer_eights` meets its contract: the eights passed have given way to their answers. Assumes nothing.
use Rattle.std.proofs.Common.{arith}
use Rattle.elementary.proofs.InPlace.{map_over_part}
use Rattle.curves.specs.inner.Exponents.{answer_on}
use Rattle.curves.proofs.each.answer_eights.Goals as goal

pub loop-k-preserved : goal.loop-k-preserved
loop-k-preserved c = λ rises.
    let a = c.args in
    map_over_part (answer_on a.kind a.exponents a.times.now a.rates.now) _ _ _ _ _ _ (omega arith) (omega arith) (omega arith) (c.loop-k.invariant rises) (c.answer_eight.ensures rises)
