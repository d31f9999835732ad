-- `elementary::powers::raise_each` meets its contract: each turn of the loop is a turn of the definition at every number. Assumes nothing.
use Rattle.std.proofs.Common.{◌≡◌, map}
use Rattle.std.specs.Float.Ieee.{Float}
use Rattle.elementary.specs.WholePower.{turns}
use Rattle.elementary.proofs.powers.raise_each.Given as goal

abbrev pub invariant-loop-left : goal.invariant-loop-left
invariant-loop-left l = map (λ (x : Float). turns l.exponent l.exponent x l.base) l.initial.numbers ≡ map (λ (x : Float). turns l.left l.left x l.square) l.numbers

abbrev pub decreases-loop-left : goal.decreases-loop-left
decreases-loop-left l = l.left
