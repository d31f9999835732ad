-- `swaps::bootstrap::solved_curve` meets its contract: the tenors and the solved rates stand in front of two rooms of +0. Assumes nothing.
use Rattle.std.proofs.Common.{◌≡◌, length, arith}
use Rattle.std.proofs.lemmas.Grind.{common_steps}
use Rattle.swaps.proofs.Fronts.{curve_made}
use Rattle.swaps.proofs.bootstrap.solved_curve.Goals as goal

pub returns : goal.returns
returns c =
    let many : length c.solve_knots.new.zeros ≡ length c.args.tenors.now = grind (arith, common_steps) in
    curve_made c.args.tenors.now _ _ c.solve_knots.new.zeros c.solve_knots.ensures.times_after c.solve_knots.ensures.zeros_after many
