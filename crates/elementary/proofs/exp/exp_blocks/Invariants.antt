-- `elementary::exp::exp_blocks` meets its contract: the blocks passed are done, the others as they were. Assumes nothing.
use Rattle.std.proofs.Common.{◌≡◌, ◌*◌, map, take, drop, ◌++◌}
use Rattle.elementary.specs.Exp.{exp}
use Rattle.elementary.proofs.exp.exp_blocks.Given as goal

abbrev pub invariant-loop-k : goal.invariant-loop-k
invariant-loop-k l = l.numbers ≡ map exp (take (16 * l.k) l.initial.numbers) ++ drop (16 * l.k) l.initial.numbers
