-- `swaps::knots::add_coupons` meets its contract: each turn of the loop adds one coupon. Assumes nothing.
use Rattle.std.proofs.Common.{◌≡◌, ℕ, ◌+◌, refl, ap, ◌∙◌, arith}
use Rattle.numbers.specs.Sums.{added_up}
use Rattle.curves.proofs.Adding.{one_more}
use Rattle.swaps.specs.Bootstrap.{coupon_at}
use Rattle.swaps.proofs.Coupons.{whole_coupon}
use Rattle.swaps.proofs.knots.add_coupons.Goals as goal

one_later : (first j : ℕ) → first + j + 1 ≡ first + (j + 1)
one_later first j = omega arith

pub loop-j-preserved : goal.loop-j-preserved
loop-j-preserved c =
    let l = c.loop-j in
    let a = c.args in
    let k = a.first + l.j in
    λ tenors zeros each summed.
    one_more (coupon_at tenors zeros a.tenor a.par) k _ _ (l.invariant tenors zeros each summed)
    (whole_coupon tenors zeros a.tenor a.par a.first l.j k refl (c.requires.1 k (omega (arith, c.loop-j-test.true))) _ _ c.date.ensures (each l.j c.loop-j-test.true))
    ∙ ap (added_up (coupon_at tenors zeros a.tenor a.par)) (one_later a.first l.j)
