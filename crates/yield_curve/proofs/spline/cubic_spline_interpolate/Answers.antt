-- `yield_curve::spline::cubic_spline_interpolate` meets its contract: a refusal of the curve or of what is asked is handed on. Assumes nothing.
use Rattle.std.proofs.Common.{sym}
use Rattle.refusals.proofs.Verdicts.{refused_on}
use Rattle.yield_curve.specs.Spline.{cubic_spline_interpolate}
use Rattle.yield_curve.proofs.spline.cubic_spline_interpolate.Goals as goal

pub returns-in_err-judge_asked : goal.returns-in_err-judge_asked
unfolding cubic_spline_interpolate
returns-in_err-judge_asked c = rw (sym c.bad_time.ensures) (refused_on _ _ _ c.from_residual.ensures.1 c.in_err-judge_asked.was c.judge_asked.ensures)
