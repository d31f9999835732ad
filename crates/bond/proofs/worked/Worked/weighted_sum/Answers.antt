-- `bond::worked::Worked::weighted_sum` meets its contract: each turn of the loop adds the terms of one block, and the last term comes last. Assumes nothing.
use mathlib.Core.Path.{◌≡◌, refl, sym, ◌∙◌}
use Prim.Native.Nat.{◌+◌, ◌-◌}
use native.Mathlib.Omega.{arith}
use Rattle.numbers.specs.Sums.{added_up}
use Rattle.bond.specs.inner.Weighted.{weighted_by}
use Rattle.bond.proofs.FlowSums.{added_at, term}
use Rattle.bond.proofs.worked.Worked.weighted_sum.Goals as goal

pub returns-then-self-eq0 : goal.returns-then-self-eq0
unfolding added_up
returns-then-self-eq0 c = rw (sym c.args.self.counted, c.if-self-eq0.true)

pub loop-t-init : goal.loop-t-init
unfolding added_up
loop-t-init c = (omega arith, omega arith, refl)

pub add_flows-sum-requires : goal.add_flows-sum-requires
add_flows-sum-requires c =
    let e = c.block_end-end.ensures in
    (c.loop-t.invariant.0, omega arith, e.1, e.2, c.loop-t.invariant.2)

pub loop-t-preserved : goal.loop-t-preserved
loop-t-preserved c = (omega arith, c.block_end-end.ensures.2, c.add_flows-sum.ensures)

pub returns : goal.returns
returns c =
    let pre = c.args.self in
    let a = c.args in
    let end : c.loop-t.t + 1 - 1 ≡ a.self.count = omega arith in
    added_at (weighted_by a.self.bond a.r a.squares) _ _ c.loop-t.t c.loop-t.invariant.0 c.loop-t.invariant.2 (term _ _ c.loop-t.t a.squares _ _ _ pre.yearly c.weight.ensures c.flow_worth.ensures) ∙ rw (end, pre.counted)
