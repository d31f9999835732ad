-- `swaps::bootstrap::solve_knots` meets its contract: the tenors and the zero rates up to the knot in hand stand in front. Assumes nothing.
use Rattle.std.proofs.Common.{◌<◌, length, arith}
use Rattle.swaps.proofs.SolvedKnots.{tenor_put, room_rises, one_knot_more, knot_solved}
use Rattle.swaps.proofs.bootstrap.solve_knots.Goals as goal

pub next_zero-zero-requires : goal.next_zero-zero-requires
next_zero-zero-requires c =
    let l = c.loop-i in
    let tenors = c.args.tenors.now in
    let h : l.i < length tenors = omega arith in
    let put = tenor_put tenors l.times l.i h (omega arith) l.invariant.0 in
    (one_knot_more tenors c.args.pars.now _ l.zeros l.i h (omega arith) put, room_rises tenors _ l.i h put c.requires.3)

pub loop-i-preserved : goal.loop-i-preserved
loop-i-preserved c =
    let l = c.loop-i in
    let tenors = c.args.tenors.now in
    let h : l.i < length tenors = omega arith in
    let put = tenor_put tenors l.times l.i h (omega arith) l.invariant.0 in
    (put, knot_solved tenors c.args.pars.now _ l.zeros l.i h (omega arith) put _ l.invariant.1 c.next_zero-zero.ensures)
