-- `yield_curve::linear::linear_interpolate` meets its contract: a refusal of the curve or of what is asked is handed on. Assumes nothing.
use Rattle.std.proofs.Common.{sym}
use Rattle.refusals.proofs.Verdicts.{refused_on}
use Rattle.yield_curve.specs.Linear.{linear_interpolate}
use Rattle.yield_curve.proofs.linear.linear_interpolate.Goals as goal

pub returns-in_err-judge_asked : goal.returns-in_err-judge_asked
unfolding linear_interpolate
returns-in_err-judge_asked c = rw (sym c.bad_time.ensures) (refused_on _ _ _ c.from_residual.ensures.1 c.in_err-judge_asked.was c.judge_asked.ensures)
