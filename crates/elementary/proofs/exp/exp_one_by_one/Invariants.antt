-- `elementary::exp::exp_one_by_one` meets its contract: the numbers passed are done, the others as they were. Assumes nothing.
use Rattle.std.proofs.Common.{◌≡◌, map, take, drop, ◌++◌}
use Rattle.elementary.specs.Exp.{exp}
use Rattle.elementary.proofs.exp.exp_one_by_one.Given as goal

abbrev pub invariant-loop-x : goal.invariant-loop-x
invariant-loop-x l = l.numbers ≡ map exp (take l.x-index l.initial.numbers) ++ drop l.x-index l.initial.numbers
