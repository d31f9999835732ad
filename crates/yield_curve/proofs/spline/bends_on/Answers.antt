-- `yield_curve::spline::bends_on` meets its contract: down to the knot in hand, c is that knot's. Assumes nothing.
use Rattle.std.proofs.Common.{◌≡◌, suc, ◌-◌, ◌<◌, length, ap, ◌∙◌, arith}
use Rattle.yield_curve.specs.Spline.{c_at}
use Rattle.yield_curve.proofs.Splines.{down}
use Rattle.yield_curve.proofs.spline.bends_on.Goals as goal

pub loop-k-preserved : goal.loop-k-preserved
loop-k-preserved c =
    let a = c.args in
    let k = c.loop-k.k in
    let before : k ≡ suc (k - 1) = omega arith in
    let inside : suc (k - 1) < length a.times.now = omega arith in
    let swept = c.sweep_up-swept.ensures.each (k - 1) _ inside in
    (omega arith, down a.times.now a.rates.now (k - 1) _ _ _ inside swept.1 swept.0 (c.loop-k.invariant.1 ∙ ap (c_at a.times.now a.rates.now) before))

pub returns : goal.returns
returns c =
    let a = c.args in
    let here : c.loop-k.k ≡ suc a.i = omega arith in
    let inside : suc a.i < length a.times.now = omega arith in
    let swept = c.sweep_up-swept.ensures.each a.i _ inside in
    let next = c.loop-k.invariant.1 ∙ ap (c_at a.times.now a.rates.now) here in
    (down a.times.now a.rates.now a.i _ _ _ inside swept.1 swept.0 next, next)
