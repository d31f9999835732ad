-- `swaps::legs::payment_sums` meets its contract: after each run its periods are in the sums. Assumes nothing.
use Rattle.std.proofs.Common.{◌≡◌, min, arith}
use Rattle.swaps.proofs.PaymentSums.{both_at_start, so_many_on_both}
use Rattle.swaps.proofs.legs.payment_sums.Goals as goal

pub loop-k-init : goal.loop-k-init
loop-k-init c = so_many_on_both _ _ _ _ _ _ (let none : 0 ≡ min 0 c.period_count-count.result = omega arith in none) (both_at_start _ _ _ _ _ c.no_payments.ensures c.no_payments-2.ensures)
