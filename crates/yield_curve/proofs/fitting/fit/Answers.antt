-- `yield_curve::fitting::fit` meets its contract: a refusal of the curve is handed on. Assumes nothing.
use Rattle.refusals.proofs.Verdicts.{refused_on}
use Rattle.yield_curve.specs.Fit.{fit}
use Rattle.yield_curve.proofs.fitting.fit.Goals as goal

pub returns-in_err-judge_curve : goal.returns-in_err-judge_curve
unfolding fit
returns-in_err-judge_curve c = refused_on _ _ _ c.from_residual.ensures.1 c.in_err-judge_curve.was c.judge_curve.ensures
