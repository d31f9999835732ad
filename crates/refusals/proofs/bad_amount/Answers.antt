-- `refusals::bad_amount` meets its contract: the two tests are the two causes of line 1. Assumes nothing.
use mathlib.Core.Path.{sym, ap, ◌∙◌}
use mathlib.Core.Bool.{not}
use lib.Ieee.Scale.{finite}
use Rattle.refusals.specs.Table.{bad_amount}
use Rattle.refusals.proofs.Causes.{or_true, or_false}
use Rattle.refusals.proofs.bad_amount.Goals as goal

pub returns-then-x : goal.returns-then-x
unfolding bad_amount
returns-then-x c = rw c.if-x.true (sym (or_true (not (finite c.args.x))))

pub returns-else-x : goal.returns-else-x
unfolding bad_amount
returns-else-x c = rw c.if-x.false (ap not c.is_finite.ensures ∙ sym (or_false (not (finite c.args.x))))
