-- `swaps::knots::errors_of` meets its contract: the sums of the settled coupons are carried on to the last date. Assumes nothing.
use Rattle.std.proofs.Common.{◌≡◌, ◌∙◌, rules, arith}
use Rattle.swaps.proofs.TriedCoupons.{settled_sums, less, errors_are}
use Rattle.swaps.proofs.knots.errors_of.Goals as goal

pub loop-k-init : goal.loop-k-init
loop-k-init c = let a = c.args in settled_sums a.tenors.now a.earlier.now a.knot a.rates c.requires.1 c.requires.0

pub returns : goal.returns
returns c =
    let l = c.loop-k in
    let a = c.args in
    let within = c.requires.0.within in
    let all : l.k ≡ a.knot.dates = omega arith in
    errors_are a.tenors.now a.earlier.now a.knot a.rates c.requires.1 l.k (all ∙ c.requires.0.counted) _ _ _ l.invariant c.discounts_with-lasts.ensures (c.change_each.ensures less (λ x y r p. search rules))
