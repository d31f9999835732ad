-- `swaps::knots::add_coupons` meets its contract: each turn of the loop adds one coupon. Assumes nothing.
use Rattle.std.proofs.Common.{◌≡◌, ◌+◌, List, length}
use lib.Ieee.{Float}
use Rattle.numbers.specs.Literals.{one}
use Rattle.numbers.specs.Sums.{added_up}
use Rattle.swaps.specs.Bootstrap.{coupon_at}
use Rattle.swaps.specs.inner.Runs.{FactorsAfter}
use Rattle.swaps.proofs.knots.add_coupons.Given as goal

abbrev pub invariant-loop-j : goal.invariant-loop-j
invariant-loop-j l = (tenors zeros : List Float) → FactorsAfter one tenors zeros l.first (length l.factors) l.factors → l.before ≡ added_up (coupon_at tenors zeros l.tenor l.par) l.first
    → l.sum ≡ added_up (coupon_at tenors zeros l.tenor l.par) (l.first + l.j)
