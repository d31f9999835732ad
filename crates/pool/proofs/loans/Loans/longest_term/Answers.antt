-- `pool::loans::Loans::longest_term` meets its contract: the larger of the longest so far and the next, loan after loan. Assumes nothing.
use mathlib.Core.Path.{◌∙◌}
use Prim.Native.Nat.{max}
use Rattle.std.proofs.Common.{rules}
use Rattle.std.proofs.lemmas.Iterator.Consumers.{fold_from_yields_List}
use Rattle.pool.proofs.Folds.{longest_by_fold}
use Rattle.pool.proofs.LoanOrder.{in_order}
use Rattle.pool.proofs.loans.Loans.longest_term.Goals as goal

pub returns : goal.returns
returns c = fold_from_yields_List _ (λ n t. max t.term n) 0 _ c.fold.ensures.ran (in_order c.args.self) (λ a x b q k. search rules) ∙ longest_by_fold _
