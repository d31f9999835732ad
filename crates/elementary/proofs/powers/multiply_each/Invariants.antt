-- `elementary::powers::multiply_each` meets its contract: the numbers passed are multiplied, the others as they were. Assumes nothing.
use Rattle.std.proofs.Common.{◌≡◌, map, take, drop, ◌++◌}
use Rattle.std.specs.Float.{binary64}
use Rattle.std.specs.Float.Ieee.{Float, mul}
use Rattle.elementary.proofs.powers.multiply_each.Given as goal

abbrev pub times : Float → Float → Float
times by x = mul binary64 x by

abbrev pub invariant-loop-x : goal.invariant-loop-x
invariant-loop-x l = l.numbers ≡ map (times l.by) (take l.x-index l.initial.numbers) ++ drop l.x-index l.initial.numbers
