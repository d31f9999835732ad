-- `elementary::power::by_sign` meets its contract. Assumes nothing.
use mathlib.Core.Path.{◌≡◌, ap, ◌∙◌}
use Rattle.numbers.specs.Sizes.{absolute}
use Rattle.numbers.specs.Whole.{nearest_whole}
use Rattle.elementary.proofs.WholeExponents.{below_zero, not_below_zero}
use Rattle.elementary.proofs.power.by_sign.Goals as goal

pub returns-then-y : goal.returns-then-y
returns-then-y c =
    let nearest : c.usually_whole-size.result ≡ nearest_whole (absolute c.args.y) = c.usually_whole-size.ensures ∙ ap nearest_whole c.absolute_value.ensures in
    c.negative_power.ensures ∙ below_zero _ _ _ c.requires nearest c.if-y.true

pub returns-else-y : goal.returns-else-y
returns-else-y c =
    let nearest : c.usually_whole-size.result ≡ nearest_whole (absolute c.args.y) = c.usually_whole-size.ensures ∙ ap nearest_whole c.absolute_value.ensures in
    c.whole_power.ensures ∙ not_below_zero _ _ _ c.requires nearest c.if-y.false
