-- `mortgage::totals::interest_over` meets its contract: the rows' interest, folded, is added up. Assumes nothing.
use mathlib.Core.Path.{◌∙◌}
use Rattle.std.proofs.Common.{rules}
use Rattle.std.proofs.lemmas.Iterator.Consumers.{YieldsList-from_first, fold_from_yields_List}
use Rattle.mortgage.specs.declared.months.NextRows.{NextRows}
use Rattle.mortgage.specs.inner.RowsToCome.{rows_to_come}
use Rattle.mortgage.proofs.RowColumns.{interest_more, interest_folded}
use Rattle.mortgage.proofs.totals.interest_over.Goals as goal

pub returns : goal.returns
returns c =
    let a = c.args in
    fold_from_yields_List _ (interest_more a.loan) _ _ c.fold.ensures.ran (YieldsList-from_first (λ x. x) (λ (s : NextRows). rows_to_come s.course s.left s.loan) _ c.rows_of.ensures) (λ t x u q k. search rules)
    ∙ interest_folded a.loan a.count
