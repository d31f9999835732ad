-- `swaps::valuation::swap_npv` meets its contract: the verdict on the swap and the curve is its answer's. Assumes nothing.
use mathlib.Core.Path.{ap, ◌∙◌}
use Rattle.refusals.specs.Outcome.{accepted}
use Rattle.refusals.proofs.Verdicts.{refused_by, accepted_by}
use Rattle.swaps.specs.Valuation.{swap_npv}
use Rattle.swaps.proofs.Values.{net_is, swap_rises, has_periods}
use Rattle.swaps.proofs.valuation.swap_npv.Goals as goal

pub legs_of-requires : goal.legs_of-requires
legs_of-requires c =
    let a = c.args in
    let tenors = a.tenors.now in
    let zeros = a.zeros.now in
    let is = c.in-Ok.is in
    (swap_rises tenors zeros a.swap _ c.judge_any.ensures is, has_periods tenors zeros a.swap _ c.judge_any.ensures is)

pub returns-in-Err : goal.returns-in-Err
unfolding swap_npv
returns-in-Err c = refused_by _ _ _ _ c.in-Err.is c.judge_any.ensures

pub returns-in-Ok : goal.returns-in-Ok
unfolding swap_npv
returns-in-Ok c =
    ap accepted (c.net.ensures ∙ net_is _ _ _ _ c.legs_of.ensures _)
    ∙ accepted_by _ _ _ c.in-Ok.is c.judge_any.ensures
