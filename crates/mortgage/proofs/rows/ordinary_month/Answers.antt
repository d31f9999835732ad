-- `mortgage::rows::ordinary_month` meets its contract: neither bound changes the principal, and what it leaves is above 0. Assumes nothing.
use mathlib.Core.Path.{◌≡◌}
use mathlib.Core.Bool.{true}
use native.Mathlib.Omega.{arith}
use lib.Ieee.{binary64, fits}
use lib.Ieee.Fits.{sub-fits}
use lib.Ieee.Bits.{is_true}
use Rattle.mortgage.proofs.RuleLaws.{within, left_as_it_is}
use Rattle.mortgage.proofs.RowLaws.{other_month}
use Rattle.mortgage.proofs.rows.ordinary_month.Goals as goal

pub returns-then-principal-loan : goal.returns-then-principal-loan
returns-then-principal-loan c =
    let l = c.args.loan in
    let above = c.if-principal.true in
    let below = c.if-principal-loan.true in
    let held : fits binary64 l.balance ≡ true = cc in
    let shown = left_as_it_is l.balance _ held (is_true _ (sub-fits binary64 l.payment c.args.interest)) above below in
    other_month c.args.course l c.args.interest _ _ c.requires.interest_value _ c.requires.only_le_done.0 (λ h. omega arith) (within _ l.balance above below) (rw (← shown) c.month_of.ensures.row_value) c.month_of.ensures.next_value
