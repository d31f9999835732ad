-- `mortgage::savings::pay_down` meets its contract: a month that neither finds nor leaves the loan paid off goes on. Assumes nothing.
use mathlib.Core.Path.{◌∙◌}
use Rattle.mortgage.proofs.PayingDown.{goes_on, counted}
use Rattle.mortgage.proofs.savings.pay_down.Goals as goal

pub loop-preserved : goal.loop-preserved
loop-preserved c =
    let i = c.loop.invariant in
    let month = c.month_down-state.ensures in
    (i.0 ∙ goes_on _ _ _ _ _ _ month c.loop-test.true c.if-not-state.false c.if-state.false, counted _ _ _ _ _ month i.1)
