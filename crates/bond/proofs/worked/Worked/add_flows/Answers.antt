-- `bond::worked::Worked::add_flows` meets its contract: each turn of the loop adds one term. Assumes nothing.
use mathlib.Core.Path.{◌≡◌, ◌∙◌}
use Prim.Native.Nat.{◌+◌, ◌*◌, ◌/◌, ◌≤◌, ◌<◌}
use native.Mathlib.Omega.{arith}
use Rattle.bond.specs.inner.Weighted.{weighted_by}
use Rattle.bond.proofs.FlowSums.{added_at, coupon_worth, power_of, term}
use Rattle.bond.proofs.worked.Worked.add_flows.Goals as goal

pub loop-t-init : goal.loop-t-init
loop-t-init c = c.requires.4

pub loop-t-preserved : goal.loop-t-preserved
loop-t-preserved c =
    let a = c.args in
    let t = c.loop-t.t in
    let low : 16 * (a.from / 16) ≤ t = omega arith in
    let high : t < 16 * (a.from / 16) + 16 = omega arith in
    let one : 1 ≤ t = omega arith in
    let before : t < a.self.count = omega arith in
    added_at (weighted_by a.self.bond a.r a.squares) _ _ t one c.loop-t.invariant
    (term _ _ t a.squares _ _ _ c.args.self.yearly c.weight.ensures
    (coupon_worth _ _ t _ _ _ c.args.self.paid c.args.self.counted before (power_of _ _ _ t c.sixteen_powers-powers.ensures low high)))

pub returns : goal.returns
returns c =
    let end : c.loop-t.t ≡ c.args.to = omega arith in
    c.loop-t.invariant ∙ rw end
