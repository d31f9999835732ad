-- `elementary::exp::exp_block` meets its contract: first what is left of each number is made ready, and its power of two, then each number passed is done. Assumes nothing.
use Rattle.std.proofs.Common.{◌≡◌, map, take, drop, ◌++◌}
use Rattle.elementary.specs.Exp.{exp}
use Rattle.elementary.proofs.Lanes.{rest, scale, HasUpTo}
use Rattle.elementary.proofs.exp.exp_block.Given as goal

abbrev pub invariant-loop-j : goal.invariant-loop-j
invariant-loop-j g l = HasUpTo rest l.numbers g.row.N l.rests l.j × HasUpTo scale l.numbers g.row.N l.scales l.j

abbrev pub invariant-loop-i : goal.invariant-loop-i
invariant-loop-i g l = l.numbers ≡ map exp (take l.i l.initial.numbers) ++ drop l.i l.initial.numbers
