-- `swaps::legs::fixed_leg_pv` meets its contract: the verdict on the swap and the curve is its answer's. Assumes nothing.
use mathlib.Core.Path.{ap, ◌∙◌}
use Rattle.refusals.specs.Outcome.{accepted}
use Rattle.refusals.proofs.Verdicts.{refused_by, accepted_by}
use Rattle.swaps.specs.Valuation.{fixed_leg_pv}
use Rattle.swaps.proofs.Values.{swap_rises, has_periods}
use Rattle.swaps.proofs.legs.fixed_leg_pv.Goals as goal

pub legs_of-legs-requires : goal.legs_of-legs-requires
legs_of-legs-requires c =
    let a = c.args in
    let tenors = a.tenors.now in
    let zeros = a.zeros.now in
    let is = c.in-Ok.is in
    (swap_rises tenors zeros a.swap _ c.judge_any.ensures is, has_periods tenors zeros a.swap _ c.judge_any.ensures is)

pub returns-in-Err : goal.returns-in-Err
unfolding fixed_leg_pv
returns-in-Err c = refused_by _ _ _ _ c.in-Err.is c.judge_any.ensures

pub returns-in-Ok : goal.returns-in-Ok
unfolding fixed_leg_pv
returns-in-Ok c =
    ap accepted c.legs_of-legs.ensures.fixed_is
    ∙ accepted_by _ _ _ c.in-Ok.is c.judge_any.ensures
