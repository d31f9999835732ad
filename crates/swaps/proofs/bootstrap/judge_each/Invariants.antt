-- `swaps::bootstrap::judge_each` meets its contract: what line 6 says of all the knots is what it says from the knot in hand on. Assumes nothing.
use Rattle.std.proofs.Common.{◌≡◌, [], ◌∷◌}
use Rattle.refusals.proofs.Verdicts.{verdict}
use Rattle.swaps.proofs.ParLines.{knot_line, From}
use Rattle.swaps.proofs.bootstrap.judge_each.Given as goal

abbrev pub invariant-loop-i : goal.invariant-loop-i
invariant-loop-i l = verdict (knot_line l.tenors l.pars ∷ []) ≡ From l.tenors l.pars l.before l.i
