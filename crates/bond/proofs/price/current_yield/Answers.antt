-- `bond::price::current_yield` meets its contract: the verdict on the bond is its answer's. Assumes nothing.
use mathlib.Core.Path.{sym}
use Rattle.refusals.proofs.Verdicts.{refused_on, accepted_by}
use Rattle.bond.specs.Price.{current_yield}
use Rattle.bond.proofs.price.current_yield.Goals as goal

pub returns-then-next_to_nothing : goal.returns-then-next_to_nothing
unfolding current_yield
returns-then-next_to_nothing c =
    rw (
      sym c.next_to_nothing.ensures,
      c.if-next_to_nothing.true,
      sym c.of.ensures,
    ) (accepted_by _ _ _ c.in_ok-judge_bond.was c.judge_bond.ensures)

pub returns-in_err-judge_bond : goal.returns-in_err-judge_bond
unfolding current_yield
returns-in_err-judge_bond c = rw (sym c.of.ensures) (refused_on _ _ _ c.from_residual.ensures.1 c.in_err-judge_bond.was c.judge_bond.ensures)

pub returns : goal.returns
unfolding current_yield
returns c =
    rw (
      sym c.next_to_nothing.ensures,
      c.if-next_to_nothing.false,
      sym c.of.ensures,
    ) (accepted_by _ _ _ c.in_ok-judge_bond.was c.judge_bond.ensures)
