-- `elementary::exp::exp` meets its contract: the tests in the definition's order, and the steps between the ends. Assumes nothing.
use Rattle.std.proofs.Common.{sym, ◌∙◌}
use lib.Ieee.{of_bits}
use Rattle.elementary.specs.Exp.{below}
use Rattle.elementary.proofs.ExpSteps.{minus_708, nan_alone, at_nan, above, beneath}
use Rattle.elementary.proofs.exp.exp.Goals as goal

pub returns-then-is_nan : goal.returns-then-is_nan
returns-then-is_nan c = let x = c.args.x in at_nan x (sym (c.is_nan.ensures.value ∙ nan_alone x) ∙ c.if-is_nan.true)

pub returns-then-x : goal.returns-then-x
unfolding of_bits
returns-then-x c = let x = c.args.x in above x (sym (c.is_nan.ensures.value ∙ nan_alone x) ∙ c.if-is_nan.false) c.if-x.true

pub returns-then-x-2 : goal.returns-then-x-2
returns-then-x-2 c = let x = c.args.x in beneath x (sym (c.is_nan.ensures.value ∙ nan_alone x) ∙ c.if-is_nan.false) c.if-x.false (rw minus_708 at c.if-x-2.true)

pub on_side-requires-clause-inside : goal.on_side-requires-clause-inside
on_side-requires-clause-inside c = (sym (c.is_nan.ensures.value ∙ nan_alone c.args.x) ∙ c.if-is_nan.false, c.if-x.false, rw minus_708 at c.if-x-2.false)

pub on_side-requires-clause-side : goal.on_side-requires-clause-side
unfolding below
on_side-requires-clause-side c = c.if-x-3.true

pub on_side-requires-2-clause-inside : goal.on_side-requires-2-clause-inside
on_side-requires-2-clause-inside c = (sym (c.is_nan.ensures.value ∙ nan_alone c.args.x) ∙ c.if-is_nan.false, c.if-x.false, rw minus_708 at c.if-x-2.false)

pub on_side-requires-2-clause-side : goal.on_side-requires-2-clause-side
unfolding below
on_side-requires-2-clause-side c = c.if-x-3.false
