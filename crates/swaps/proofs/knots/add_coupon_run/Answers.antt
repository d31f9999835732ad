-- `swaps::knots::add_coupon_run` meets its contract. Assumes nothing.
use Rattle.std.proofs.Common.{◌≡◌, ◌+◌, length, take, ap, ◌∙◌, arith}
use Rattle.std.proofs.Math.Seq.{get_or-take}
use Rattle.std.proofs.lemmas.Grind.{common_steps}
use lib.Ieee.{nan}
use Rattle.numbers.specs.Literals.{one}
use Rattle.numbers.specs.Sums.{added_up}
use Rattle.swaps.specs.Bootstrap.{coupon_at}
use Rattle.swaps.proofs.DiscountKind.{factors_are}
use Rattle.swaps.proofs.knots.add_coupon_run.Goals as goal

pub returns : goal.returns
returns c =
    let a = c.args in
    let tenors = a.tenors.now in
    let zeros = a.zeros.now in
    let factors = c.factors_after-factors.result in
    let many : length (take a.count factors) ≡ a.count = grind (arith, common_steps) in
    let each = factors_are tenors zeros one a.first a.count factors (c.factors_after-factors.ensures.1 c.requires.2 c.requires.0 c.requires.1) in
    c.add_coupons.ensures tenors zeros (λ j h. get_or-take a.count factors j nan (omega arith) ∙ each j (omega arith)) c.requires.4
    ∙ ap (added_up (coupon_at tenors zeros a.tenor a.par)) (ap (λ n. a.first + n) many)
