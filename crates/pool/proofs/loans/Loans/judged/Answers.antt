-- `pool::loans::Loans::judged` meets its contract: line 11 goes before every other. Assumes nothing.
use mathlib.Core.Path.{◌∙◌, ap, sym}
use Rattle.pool.specs.inner.Verdict.{verdict_of}
use Rattle.pool.proofs.Lines.{refused_11}
use Rattle.pool.proofs.loans.Loans.judged.Goals as goal

pub returns-in-Err-clause-verdict : goal.returns-in-Err-clause-verdict
returns-in-Err-clause-verdict c = refused_11 _ _ _ _ (sym (ap verdict_of c.in-Err.is) ∙ c.of.ensures.verdict)
