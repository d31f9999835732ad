-- `yield_curve::linear::forward_rate` meets its contract: a refusal of the curve or of what is asked is handed on. Assumes nothing.
use Rattle.std.proofs.Common.{sym}
use Rattle.refusals.proofs.Verdicts.{refused_on}
use Rattle.yield_curve.specs.Linear.{forward_rate}
use Rattle.yield_curve.proofs.linear.forward_rate.Goals as goal

pub returns-in_err-judge_asked : goal.returns-in_err-judge_asked
unfolding forward_rate
returns-in_err-judge_asked c = rw (sym c.bad_times.ensures) (refused_on _ _ _ c.from_residual.ensures.1 c.in_err-judge_asked.was c.judge_asked.ensures)
