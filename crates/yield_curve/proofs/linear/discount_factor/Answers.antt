-- `yield_curve::linear::discount_factor` meets its contract: a refusal of the curve or of what is asked is handed on. Assumes nothing.
use Rattle.std.proofs.Common.{sym}
use Rattle.refusals.proofs.Verdicts.{refused_on}
use Rattle.yield_curve.specs.Linear.{discount_factor}
use Rattle.yield_curve.proofs.linear.discount_factor.Goals as goal

pub returns-in_err-judge_asked : goal.returns-in_err-judge_asked
unfolding discount_factor
returns-in_err-judge_asked c = rw (sym c.bad_time.ensures) (refused_on _ _ _ c.from_residual.ensures.1 c.in_err-judge_asked.was c.judge_asked.ensures)
