-- `swaps::trials::change_each` meets its contract: the numbers passed are made of the two at their place. Assumes nothing.
use Rattle.std.proofs.Common.{◌≡◌}
use lib.Ieee.{Float}
use Rattle.swaps.proofs.Eights.{MadeTo}
use Rattle.swaps.proofs.trials.change_each.Given as goal

abbrev pub invariant-loop-j : goal.invariant-loop-j
invariant-loop-j g l = (f : Float → Float → Float) → ((a b r : Float) → goal.F-post g l.made a b r → r ≡ f a b) → MadeTo f l.initial.numbers l.others l.j l.numbers
