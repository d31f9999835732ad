-- `swaps::valuation::bump` meets its contract: the rates passed are raised. Assumes nothing.
use Rattle.std.proofs.Common.{◌≡◌, take}
use Rattle.swaps.specs.Valuation.{bumped}
use Rattle.swaps.proofs.valuation.bump.Given as goal

abbrev pub invariant-loop-i : goal.invariant-loop-i
invariant-loop-i l = take l.i l.out ≡ bumped (take l.i l.zeros)
