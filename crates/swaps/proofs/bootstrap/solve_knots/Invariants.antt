-- `swaps::bootstrap::solve_knots` meets its contract: the tenors and the zero rates up to the knot in hand stand in front. Assumes nothing.
use Rattle.std.proofs.Common.{◌≡◌, take}
use Rattle.swaps.specs.Bootstrap.{zeros_up_to}
use Rattle.swaps.proofs.bootstrap.solve_knots.Given as goal

abbrev pub invariant-loop-i : goal.invariant-loop-i
invariant-loop-i l = (take l.i l.times ≡ take l.i l.tenors) × (take l.i l.zeros ≡ zeros_up_to l.tenors l.pars l.i)
