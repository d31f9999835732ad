-- `yield_curve::fitting::least_squares` meets its contract: after i points each equation has their sums. Assumes nothing.
use Rattle.std.proofs.Common.{◌≡◌, length, arith}
use Rattle.std.specs.Prelude.{Float}
use Rattle.numbers.specs.Literals.{one}
use Rattle.yield_curve.specs.Fit.{slope_at, hump_at, least_squares}
use Rattle.yield_curve.proofs.Points.{all_points}
use Rattle.yield_curve.proofs.fitting.least_squares.Goals as goal

pub returns : goal.returns
unfolding least_squares
returns c =
    let a = c.args in
    let held = c.loop-i.invariant in
    let all : c.loop-i.i ≡ length a.times.now = omega arith in
    let of_all = λ (g : Float → Float). all_points a.times.now a.rates.now g _ all in
    rw (of_all (λ (t : Float). one) _ held.0, of_all slope_at _ held.1, of_all hump_at _ held.2)
