-- `elementary::exp::by_multiple` meets its contract: the definition's steps from k. Assumes nothing.
use Rattle.std.proofs.Common.{ap, ◌∙◌}
use Rattle.elementary.specs.Exp.{reduced}
use Rattle.elementary.proofs.ExpSteps.{steps}
use Rattle.elementary.proofs.exp.by_multiple.Goals as goal

pub returns : goal.returns
returns c =
    let x = c.args.x in
    steps x c.requires.inside _ _ _ (c.taken_off.ensures ∙ ap (reduced x) c.requires.multiple) c.series.ensures c.scale_of.ensures
