-- `refusals::bad_term` meets its contract. Assumes nothing.
use borrow.Author.Tests.{eq-eqb, ne_eqb}
use Rattle.refusals.specs.Table.{bad_term}
use Rattle.refusals.proofs.bad_term.Goals as goal

pub returns-then-term-eq0 : goal.returns-then-term-eq0
unfolding bad_term
returns-then-term-eq0 c = simp (eq-eqb _ _ c.if-term-eq0.true)

pub returns-else-term-eq0 : goal.returns-else-term-eq0
unfolding bad_term
returns-else-term-eq0 c = simp (ne_eqb _ _ c.if-term-eq0.false)
