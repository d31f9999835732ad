-- `bond::price::price` meets its contract: the verdict on the bond is its answer's. Assumes nothing.
use mathlib.Core.Path.{sym}
use Rattle.refusals.proofs.Verdicts.{refused_on, accepted_by}
use Rattle.bond.specs.Price.{price}
use Rattle.bond.proofs.price.price.Goals as goal

pub returns-in_err-judge_bond : goal.returns-in_err-judge_bond
unfolding price
returns-in_err-judge_bond c = rw (sym c.of-worked.ensures) (refused_on _ _ _ c.from_residual.ensures.1 c.in_err-judge_bond.was c.judge_bond.ensures)

pub returns : goal.returns
unfolding price
returns c = rw (c.price_at.ensures, sym c.of-worked.ensures) (accepted_by _ _ _ c.in_ok-judge_bond.was c.judge_bond.ensures)
