-- `swaps::valuation::value_swap` meets its contract: the verdict on the swap and the curve is its answer's. Assumes nothing.
use mathlib.Core.Path.{ap, ◌∙◌}
use Rattle.refusals.specs.Outcome.{accepted}
use Rattle.refusals.proofs.Verdicts.{refused_by, accepted_by}
use Rattle.swaps.specs.Valuation.{value_swap}
use Rattle.swaps.proofs.Values.{swap_rises, few_knots, has_periods}
use Rattle.swaps.proofs.valuation.value_swap.Goals as goal

pub valuation_of-requires : goal.valuation_of-requires
valuation_of-requires c =
    let a = c.args in
    let tenors = a.tenors.now in
    let zeros = a.zeros.now in
    let is = c.in-Ok.is in
    (few_knots tenors zeros a.swap _ c.judge_any.ensures is, swap_rises tenors zeros a.swap _ c.judge_any.ensures is, has_periods tenors zeros a.swap _ c.judge_any.ensures is)

pub returns-in-Err : goal.returns-in-Err
unfolding value_swap
returns-in-Err c = refused_by _ _ _ _ c.in-Err.is c.judge_any.ensures

pub returns-in-Ok : goal.returns-in-Ok
unfolding value_swap
returns-in-Ok c =
    ap accepted c.valuation_of.ensures
    ∙ accepted_by _ _ _ c.in-Ok.is c.judge_any.ensures
