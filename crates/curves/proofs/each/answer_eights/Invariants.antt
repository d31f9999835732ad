-- `curves::each::answer_eights` meets its contract: the eights passed have given way to their answers. Assumes nothing.
use Rattle.std.proofs.Common.{◌≡◌, ◌*◌, map, take, drop, ◌++◌}
use Rattle.curves.specs.Segments.{Rising}
use Rattle.curves.specs.inner.Exponents.{answer_on}
use Rattle.curves.proofs.each.answer_eights.Given as goal

abbrev pub invariant-loop-k : goal.invariant-loop-k
invariant-loop-k l = Rising l.times → l.asked ≡ map (answer_on l.kind l.exponents l.times l.rates) (take (8 * l.k) l.initial.asked) ++ drop (8 * l.k) l.initial.asked
