-- `spread_analytics::spread::spread_within` meets its contract: what the search is still to give is what it gives from the ends in hand, whose lower error is kept. Assumes nothing.
use mathlib.Core.Path.{◌≡◌, refl, sym, ◌∙◌}
use Prim.Native.Nat.{◌+◌, ◌-◌}
use Rattle.spread_analytics.proofs.Halvings.{no_turn, close, lower_half, upper_half}
use native.Mathlib.Omega.{arith}
use Rattle.spread_analytics.proofs.spread.spread_within.Goals.{then-below-error, else-below-error}
use Rattle.spread_analytics.proofs.spread.spread_within.Goals as goal

pub loop-halving-init : goal.loop-halving-init
loop-halving-init c = λ tenors rates k l. (l, refl)

pub returns-then-absolute_value : goal.returns-then-absolute_value
returns-then-absolute_value c =
    let a = c.args in
    let n = 100 - c.loop-halving._halving in
    let more : n ≡ 100 - (c.loop-halving._halving + 1) + 1 = omega arith in
    λ tenors rates k l.
    close a.times.now a.amounts.now tenors rates a.market c.loop-halving.lo c.loop-halving.hi n _ more _ c.absolute_value.ensures c.if-absolute_value.true
    ∙ sym (c.loop-halving.invariant tenors rates k l).1

pub error_at-error-requires : goal.error_at-error-requires
error_at-error-requires c = (c.requires.0, c.requires.1, omega arith)

pub loop-halving-preserved : goal.loop-halving-preserved
loop-halving-preserved c =
    let a = c.args in
    let n = 100 - c.loop-halving._halving in
    let more : n ≡ 100 - (c.loop-halving._halving + 1) + 1 = omega arith in
    λ tenors rates k l.
    let i = c.loop-halving.invariant tenors rates k l in
    let error = c.error_at-error.ensures tenors rates k in
    elim c.if-below-error.branch [
      | then-below-error w ↦ lower_half a.times.now a.amounts.now tenors rates a.market c.loop-halving.lo c.loop-halving.hi n _ more _ c.absolute_value.ensures
          c.if-absolute_value.false c.loop-halving.below _ i.0 error _ c.if-below-error.lo c.if-below-error.hi c.if-below-error.below i.1 w.if-below-error.true w.lo-is w.hi-is w.below-is
      | else-below-error w ↦ upper_half a.times.now a.amounts.now tenors rates a.market c.loop-halving.lo c.loop-halving.hi n _ more _ c.absolute_value.ensures
          c.if-absolute_value.false c.loop-halving.below _ i.0 error _ c.if-below-error.lo c.if-below-error.hi c.if-below-error.below i.1 w.if-below-error.false w.lo-is w.hi-is w.below-is
    ]

pub returns : goal.returns
returns c =
    let a = c.args in
    λ tenors rates k l.
    no_turn a.times.now a.amounts.now tenors rates a.market c.loop-halving.lo c.loop-halving.hi (100 - c.loop-halving._halving) (omega arith) ∙ sym (c.loop-halving.invariant tenors rates k l).1
