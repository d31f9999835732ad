-- `elementary::exp::all_inside` meets its contract: each number asked is neither a NaN nor beyond an end. Assumes nothing.
use Rattle.std.proofs.Common.{◌≡◌, ◌∙◌, sym, true, fold, arith}
use Rattle.std.proofs.lemmas.Grind.{common_steps}
use Rattle.elementary.proofs.ExpSteps.{still_inside, all_inside}
use Rattle.elementary.proofs.exp.all_inside.Goals as goal

pub returns : goal.returns
returns c e =
    let xs = c.args.numbers.now in
    let by_chain : c.fold.result ≡ fold still_inside true xs = grind (arith, common_steps) in
    (all_inside true xs (sym by_chain ∙ e)).1
