-- `yield_curve::fitting::least_squares` meets its contract: after i points each equation has their sums. Assumes nothing.
use Rattle.std.proofs.Common.{◌≡◌}
use Rattle.std.specs.Prelude.{Float}
use Rattle.numbers.specs.Literals.{one}
use Rattle.yield_curve.specs.Fit.{slope_at, hump_at}
use Rattle.yield_curve.proofs.Points.{up_to}
use Rattle.yield_curve.proofs.fitting.least_squares.Given as goal

abbrev pub invariant-loop-i : goal.invariant-loop-i
invariant-loop-i l = (l.first ≡ up_to l.times l.rates (λ (t : Float). one) l.i) × (l.second ≡ up_to l.times l.rates slope_at l.i) × (l.third ≡ up_to l.times l.rates hump_at l.i)
