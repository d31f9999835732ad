-- `swaps::valuation::swap_dv01` meets its contract: the verdict on the swap and the curve is its answer's. Assumes nothing.
use mathlib.Core.Path.{ap, ◌∙◌}
use Rattle.refusals.specs.Outcome.{accepted}
use Rattle.refusals.proofs.Verdicts.{refused_by, accepted_by}
use Rattle.swaps.specs.Valuation.{swap_dv01}
use Rattle.swaps.proofs.Values.{net_is, point_is, swap_rises, few_knots, has_periods}
use Rattle.swaps.proofs.valuation.swap_dv01.Goals as goal

pub legs_with_bump-both-requires : goal.legs_with_bump-both-requires
legs_with_bump-both-requires c =
    let a = c.args in
    let tenors = a.tenors.now in
    let zeros = a.zeros.now in
    let is = c.in-Ok.is in
    (few_knots tenors zeros a.swap _ c.judge_any.ensures is, swap_rises tenors zeros a.swap _ c.judge_any.ensures is, has_periods tenors zeros a.swap _ c.judge_any.ensures is)

pub returns-in-Err : goal.returns-in-Err
unfolding swap_dv01
returns-in-Err c = refused_by _ _ _ _ c.in-Err.is c.judge_any.ensures

pub returns-in-Ok : goal.returns-in-Ok
unfolding swap_dv01
returns-in-Ok c =
    let legs = c.legs_with_bump-both.ensures in
    let higher = c.net.ensures ∙ net_is _ _ _ _ legs.1 _ in
    let worth = c.net-in-Ok.ensures ∙ net_is _ _ _ _ legs.0 _ in
    ap accepted (point_is _ _ _ _ worth higher) ∙ accepted_by _ _ _ c.in-Ok.is c.judge_any.ensures
