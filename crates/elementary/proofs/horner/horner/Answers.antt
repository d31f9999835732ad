-- `elementary::horner::horner` meets its contract: folding the coefficients in from the top is Horner's rule. Assumes nothing.
use Rattle.std.proofs.Common.{◌≡◌, ◌-◌, ◌∙◌, get_or, take, reverse, fold, arith}
use Rattle.std.proofs.lemmas.Grind.{common_steps}
use Rattle.std.specs.Float.{nan}
use Rattle.elementary.proofs.Horners.{onto, folded}
use Rattle.elementary.proofs.horner.horner.Goals as goal

pub returns : goal.returns
returns g c =
    let cs = c.args.coefficients.now in
    let by_chain : c.fold.result ≡ fold (onto c.args.x) (get_or cs (g.row.N - 1) nan) (reverse (take (g.row.N - 1) cs)) = grind (arith, common_steps) in
    by_chain ∙ folded c.args.x cs (g.row.N - 1) (omega arith)
