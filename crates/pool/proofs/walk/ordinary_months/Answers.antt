-- `pool::walk::ordinary_months` meets its contract: what is left of the walk is the walk from the month in hand on, and the balance in hand is the schedule's. Assumes nothing.
use mathlib.Core.Path.{refl, ◌∙◌}
use Rattle.std.proofs.Common.{rules}
use Rattle.mortgage.specs.Payment.{loan_of}
use Rattle.steps.specs.Steps.{stepped}
use Rattle.pool.proofs.Walks.{turn}
use Rattle.pool.proofs.LoanMonths.{ordinary}
use Rattle.pool.proofs.walk.ordinary_months.Goals as goal

pub loop-k-init : goal.loop-k-init
unfolding stepped loan_of
loop-k-init c = record { left = refl; length_kept = refl; balance = λ h. refl }

pub loop-k-preserved : goal.loop-k-preserved
loop-k-preserved c =
    let head = c.loop-k in
    let month = ordinary c.args.terms head.k head.balance c.loop-k-test.true (head.invariant.balance c.loop-k-test.true) c.args.pay _ _ _ c.requires.0 c.monthly_rate-rate.ensures refl
    refl (search rules) (search rules) (search rules) in record {
      left = turn _ _ _ _ _ _ _ c.loop-k-test.true c.add_month.ensures (month.0 _ _) head.invariant.left;
      length_kept = c.add_month.auto.room ∙ head.invariant.length_kept;
      balance = month.1;
    }
