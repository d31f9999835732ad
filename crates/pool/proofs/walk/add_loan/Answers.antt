-- `pool::walk::add_loan` meets its contract: the loan is not refused, and its months are walked in two parts. Assumes nothing.
use mathlib.Core.Path.{◌≡◌, refl}
use native.Mathlib.Omega.{arith}
use Rattle.mortgage.specs.Payment.{payment}
use Rattle.pool.proofs.LoanWalks.{paid}
use Rattle.pool.proofs.walk.add_loan.Goals as goal

pub unwrap-pay-requires : goal.unwrap-pay-requires
unwrap-pay-requires c = rw (paid _ _ c.monthly_payment.ensures c.requires.2 c.requires.3) refl

pub ordinary_months-run-requires : goal.ordinary_months-run-requires
ordinary_months-run-requires c =
    let given = paid _ _ c.monthly_payment.ensures c.requires.2 c.requires.3 in
    let same : c.unwrap-pay.result ≡ payment c.args.terms = cc in
    (same, c.requires.0, c.requires.1)

pub any_months-requires-clause-pay_value : goal.any_months-requires-clause-pay_value
any_months-requires-clause-pay_value c =
    let given = paid _ _ c.monthly_payment.ensures c.requires.2 c.requires.3 in
    let same : c.unwrap-pay.result ≡ payment c.args.terms = cc in
    (same, c.requires.0, omega (arith, c.ordinary_months-run.auto.room, c.requires.1), c.requires.2)
