-- `swaps::knots::coupon_sum` meets its contract: after each run its coupons are in the sum. Assumes nothing.
use Rattle.std.proofs.Common.{◌≡◌, min, arith}
use Rattle.numbers.specs.Sums.{added_up}
use Rattle.swaps.proofs.knots.coupon_sum.Goals as goal

pub loop-k-init : goal.loop-k-init
unfolding added_up
loop-k-init c = let none : min 0 c.args.count ≡ 0 = omega arith in rw none
