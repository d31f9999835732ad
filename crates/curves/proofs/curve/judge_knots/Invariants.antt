-- `curves::curve::judge_knots` meets its contract: what line 6 says of all the knots is what it says from the knot in hand on. Assumes nothing.
use Rattle.std.proofs.Common.{◌≡◌, [], ◌∷◌}
use Rattle.refusals.specs.Outcome.{judged}
use Rattle.refusals.specs.Table.{bad_knots}
use Rattle.curves.proofs.KnotLine.{From}
use Rattle.curves.proofs.curve.judge_knots.Given as goal

abbrev pub invariant-loop-i : goal.invariant-loop-i
invariant-loop-i l = judged ((record { number = 6; causes = bad_knots l.times l.rates }) ∷ []) tt ≡ From l.times l.rates l.before l.i
