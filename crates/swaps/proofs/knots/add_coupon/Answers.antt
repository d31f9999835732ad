-- `swaps::knots::add_coupon` meets its contract: the date is whole before the tenor, else it is the tenor, whose discount factors are at hand. Assumes nothing.
use Rattle.std.proofs.Common.{◌+◌, refl, rules}
use lib.Ieee.{Float, binary64, sub, mul, of_int}
use lib.IntN.{pos}
use Rattle.swaps.specs.Discount.{discount_of}
use Rattle.swaps.specs.inner.Knots.{with_rate, last_at}
use Rattle.swaps.proofs.Coupons.{coupon_before, coupon_at_tenor}
use Rattle.swaps.proofs.TriedCoupons.{one_coupon_more, plus}
use Rattle.swaps.proofs.knots.add_coupon.Goals as goal

pub returns-then-whole-knot : goal.returns-then-whole-knot
returns-then-whole-knot c =
    let a = c.args in
    let amount = mul binary64 a.knot.par (sub binary64 (of_int binary64 (pos (a.k + 1))) c.date-before.result) in
    one_coupon_more a.tenors.now a.earlier.now a.knot a.rates c.requires.1 a.k _ _ _ amount (λ (x : Float). discount_of a.tenors.now (with_rate a.earlier.now x) _) c.requires.4 c.discounts_with-factors.ensures
    (λ x. coupon_before a.tenors.now (with_rate a.earlier.now x) a.knot.tenor a.knot.par a.k _ _ c.if-whole-knot.true c.date-before.ensures refl)
    (c.change_each.ensures (plus amount) (λ x y r p. search rules))

pub returns-else-whole-knot : goal.returns-else-whole-knot
returns-else-whole-knot c =
    let a = c.args in
    let amount = mul binary64 a.knot.par (sub binary64 a.knot.tenor c.date-before.result) in
    one_coupon_more a.tenors.now a.earlier.now a.knot a.rates c.requires.1 a.k _ _ _ amount (last_at a.tenors.now a.earlier.now a.knot) c.requires.4 c.requires.3
    (λ x. coupon_at_tenor a.tenors.now (with_rate a.earlier.now x) a.knot.tenor a.knot.par a.k _ _ c.if-whole-knot.false c.date-before.ensures refl)
    (c.change_each-else-whole-knot.ensures (plus amount) (λ x y r p. search rules))
