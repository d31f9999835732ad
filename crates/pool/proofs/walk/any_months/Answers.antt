-- `pool::walk::any_months` meets its contract: what is left of the walk is the walk from the month in hand on, and the balance in hand is the schedule's. Assumes nothing.
use mathlib.Core.Path.{refl, ◌∙◌}
use Rattle.pool.proofs.Walks.{turn, ends}
use Rattle.pool.proofs.LoanMonths.{any_month}
use Rattle.pool.proofs.walk.any_months.Goals as goal

pub loop-k-preserved : goal.loop-k-preserved
loop-k-preserved c =
    let head = c.loop-k in
    let month = any_month c.args.terms head.k head.balance c.loop-k-test.true (head.invariant.balance c.loop-k-test.true) c.args.pay _ _ _ c.requires.pay_value.0 c.monthly_rate-rate.ensures refl
    _ c.raise_to_zero.ensures c.lower_to-principal.ensures c.requires.pay_value.3 in record {
      left = turn _ _ _ _ _ _ _ c.loop-k-test.true c.add_above.ensures (month.0 _ _) head.invariant.left;
      length_kept = c.add_above.auto.room ∙ head.invariant.length_kept;
      balance = month.1;
    }

pub returns : goal.returns
returns c = ends _ _ _ _ _ c.loop-k-test.false c.loop-k.invariant.left
