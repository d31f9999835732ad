-- `spread_analytics::flows::put_each` meets its contract: after i turns the first i values are put. Assumes nothing.
use Rattle.std.proofs.Common.{◌∙◌, ap, add-one, arith}
use Rattle.steps.proofs.Places.{none_put, one_more}
use Rattle.spread_analytics.proofs.flows.put_each.Goals as goal

pub loop-i-init : goal.loop-i-init
loop-i-init g c f h = none_put _ _

pub loop-i-preserved : goal.loop-i-preserved
loop-i-preserved g c f h =
    let l = c.loop-i in
    one_more _ _ _ _ _ (l.invariant f h) (omega (arith, c.requires.fits, c.loop-i-test.true)) (h _ _ c.value.ensures ∙ ap f (add-one l.i))
