-- `curves::each::answer_eight` meets its contract: the times passed have given way to their answers. Assumes nothing.
use Rattle.std.proofs.Common.{◌≡◌, map, take, drop, ◌++◌}
use Rattle.curves.specs.Segments.{Rising}
use Rattle.curves.specs.inner.Exponents.{answer_on}
use Rattle.curves.proofs.each.answer_eight.Given as goal

abbrev pub invariant-loop-j : goal.invariant-loop-j
invariant-loop-j l = Rising l.times → l.asked ≡ map (answer_on l.kind l.exponents l.times l.rates) (take l.j l.initial.asked) ++ drop l.j l.initial.asked
