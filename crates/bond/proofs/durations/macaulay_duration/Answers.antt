-- `bond::durations::macaulay_duration` meets its contract: the verdict on the bond is its answer's. Assumes nothing.
use mathlib.Core.Path.{sym}
use Rattle.refusals.proofs.Verdicts.{refused_on, accepted_by}
use Rattle.bond.specs.Durations.{macaulay_duration}
use Rattle.bond.proofs.durations.macaulay_duration.Goals as goal

pub returns-in_err-judge_bond : goal.returns-in_err-judge_bond
unfolding macaulay_duration
returns-in_err-judge_bond c = rw (sym c.of-worked.ensures) (refused_on _ _ _ c.from_residual.ensures.1 c.in_err-judge_bond.was c.judge_bond.ensures)

pub returns : goal.returns
unfolding macaulay_duration
returns c = rw (c.macaulay_at.ensures, sym c.of-worked.ensures) (accepted_by _ _ _ c.in_ok-judge_bond.was c.judge_bond.ensures)
