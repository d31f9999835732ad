-- `curves::each::answer_onward` meets its contract: the times passed have given way to their answers, and the last of them is past the segments before the one in hand. Assumes nothing.
use Rattle.std.proofs.Common.{◌≡◌, map, take, drop, ◌++◌}
use Rattle.curves.specs.Segments.{Rising}
use Rattle.curves.specs.inner.Kinds.{PastOn, EndsAre}
use Rattle.curves.specs.inner.Exponents.{answer_on}
use Rattle.curves.proofs.each.answer_onward.Given as goal

abbrev pub invariant-loop-t : goal.invariant-loop-t
invariant-loop-t l = Rising l.times
    → (l.asked ≡ map (answer_on l.kind l.exponents l.times l.rates) (take l.t-index l.initial.asked) ++ drop l.t-index l.initial.asked)
    × PastOn l.kind l.times l.hand.time l.hand.segment
    × EndsAre l.times l.rates l.hand.segment l.hand.ends.t0 l.hand.ends.t1 l.hand.ends.r0 l.hand.ends.r1
