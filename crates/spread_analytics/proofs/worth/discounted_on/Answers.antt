-- `spread_analytics::worth::discounted_on` meets its contract: the fold carries the terms on. Assumes nothing.
use Rattle.std.proofs.Common.{◌≡◌, fold, rules}
use Rattle.std.specs.List.{zip}
use Rattle.std.proofs.lemmas.Iterator.{YieldsList-from_zip, YieldsList-from_slice}
use Rattle.std.proofs.lemmas.Iterator.Consumers.{fold_from_yields_List}
use Rattle.spread_analytics.proofs.Products.{with_product, products_carried}
use Rattle.spread_analytics.proofs.worth.discounted_on.Goals as goal

pub returns : goal.returns
returns c =
    let a = c.args in
    let folded : c.fold.result ≡ fold with_product a.before (zip a.amounts.now a.factors.now) =
    fold_from_yields_List _ with_product a.before c.fold.result c.fold.ensures.ran
    (YieldsList-from_zip (YieldsList-from_slice a.amounts.now cc) (YieldsList-from_slice a.factors.now cc)) (λ s x b q k. search rules) in
    rw folded (products_carried a.amounts.now a.factors.now a.before c.requires)
