-- `elementary::ln::ln_of_parts` meets its contract: one more in the field is one more in the exponent. Assumes nothing.
use Rattle.elementary.specs.Ln.{ln_by}
use Rattle.elementary.proofs.Sizes.{one_more}
use Rattle.elementary.proofs.ln.ln_of_parts.Goals as goal

pub returns-then-m : goal.returns-then-m
unfolding ln_by
returns-then-m c = rw (c.if-m.true, c.answer.ensures, c.slope_of.ensures, c.exponent_of.ensures, one_more c.args.field c.args.bias)

pub returns-else-m : goal.returns-else-m
unfolding ln_by
returns-else-m c = rw (c.if-m.false, c.answer-else-m.ensures, c.slope_of-else-m.ensures, c.exponent_of-else-m.ensures)
