-- `mortgage::totals::balance_after` meets its contract: the rows' balances, folded, leave the last. Assumes nothing.
use mathlib.Core.Path.{◌∙◌}
use Rattle.std.proofs.Common.{rules}
use Rattle.std.proofs.lemmas.Iterator.Consumers.{YieldsList-from_first, fold_from_yields_List}
use Rattle.mortgage.specs.declared.months.NextRows.{NextRows}
use Rattle.mortgage.specs.inner.RowsToCome.{rows_to_come}
use Rattle.mortgage.proofs.RowColumns.{last_balance, balance_folded}
use Rattle.mortgage.proofs.totals.balance_after.Goals as goal

pub returns : goal.returns
returns c =
    let a = c.args in
    fold_from_yields_List _ (last_balance a.loan) _ _ c.fold.ensures.ran (YieldsList-from_first (λ x. x) (λ (s : NextRows). rows_to_come s.course s.left s.loan) _ c.rows_of.ensures) (λ t x u q k. search rules)
    ∙ balance_folded a.loan a.count
