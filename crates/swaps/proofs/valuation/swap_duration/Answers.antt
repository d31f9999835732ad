-- `swaps::valuation::swap_duration` meets its contract: the verdict on the swap and the curve is its answer's. Assumes nothing.
use mathlib.Core.Path.{ap, ◌∙◌}
use Rattle.refusals.specs.Outcome.{accepted}
use Rattle.refusals.proofs.Verdicts.{refused_by, accepted_by}
use Rattle.curves.specs.Segments.{Rising}
use Rattle.swaps.specs.Valuation.{swap_duration}
use Rattle.swaps.proofs.Values.{duration_is, swap_rises, has_periods}
use Rattle.swaps.specs.inner.Runs.{HasPeriods}
use Rattle.swaps.proofs.valuation.swap_duration.Goals as goal

pub legs_of-requires : goal.legs_of-requires
legs_of-requires c =
    let sound : Rising c.args.tenors.now × HasPeriods c.args.swap = let a = c.args in
    let tenors = a.tenors.now in
    let zeros = a.zeros.now in
    let is = c.in-Ok.is in
    (swap_rises tenors zeros a.swap _ c.judge_any.ensures is, has_periods tenors zeros a.swap _ c.judge_any.ensures is) in
    sound

pub duration_of-requires : goal.duration_of-requires
duration_of-requires c =
    let sound : Rising c.args.tenors.now × HasPeriods c.args.swap = let a = c.args in
    let tenors = a.tenors.now in
    let zeros = a.zeros.now in
    let is = c.in-Ok.is in
    (swap_rises tenors zeros a.swap _ c.judge_any.ensures is, has_periods tenors zeros a.swap _ c.judge_any.ensures is) in
    sound

pub returns-in-Err : goal.returns-in-Err
unfolding swap_duration
returns-in-Err c = refused_by _ _ _ _ c.in-Err.is c.judge_any.ensures

pub returns-in-Ok : goal.returns-in-Ok
unfolding swap_duration
returns-in-Ok c =
    ap accepted (c.duration_of.ensures ∙ duration_is _ _ _ _ c.legs_of.ensures)
    ∙ accepted_by _ _ _ c.in-Ok.is c.judge_any.ensures
