-- `yield_curve::linear::par_yield` meets its contract: a refusal of the curve or of what is asked is handed on. Assumes nothing.
use Rattle.std.proofs.Common.{sym}
use Rattle.refusals.proofs.Verdicts.{refused_on}
use Rattle.yield_curve.specs.Linear.{par_yield}
use Rattle.yield_curve.proofs.linear.par_yield.Goals as goal

pub returns-in_err-judge_asked : goal.returns-in_err-judge_asked
unfolding par_yield
returns-in_err-judge_asked c = rw (sym c.bad_maturity.ensures) (refused_on _ _ _ c.from_residual.ensures.1 c.in_err-judge_asked.was c.judge_asked.ensures)
