-- `swaps::knots::coupon_sum` meets its contract: after each run its coupons are in the sum. Assumes nothing.
use Rattle.std.proofs.Common.{◌≡◌, min}
use Rattle.numbers.specs.Sums.{added_up}
use Rattle.swaps.specs.Bootstrap.{coupon_at}
use Rattle.swaps.proofs.knots.coupon_sum.Given as goal

abbrev pub invariant-loop-k : goal.invariant-loop-k
invariant-loop-k l = l.sum ≡ added_up (coupon_at l.tenors l.zeros l.tenor l.par) (min l.k l.count)
