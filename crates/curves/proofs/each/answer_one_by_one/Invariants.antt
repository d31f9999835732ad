-- `curves::each::answer_one_by_one` meets its contract: the times passed have given way to their answers. Assumes nothing.
use Rattle.std.proofs.Common.{◌≡◌, map, take, drop, ◌++◌}
use Rattle.curves.specs.Segments.{Rising}
use Rattle.curves.specs.inner.Exponents.{answer_on}
use Rattle.curves.proofs.each.answer_one_by_one.Given as goal

abbrev pub invariant-loop-t : goal.invariant-loop-t
invariant-loop-t l = Rising l.times → l.asked ≡ map (answer_on l.kind l.exponents l.times l.rates) (take l.t-index l.initial.asked) ++ drop l.t-index l.initial.asked
