-- `mortgage::pairs::pair_rows` meets its contract: after k turns k rows of each loan stand from its place, and each loan is k months on. Assumes nothing.
use mathlib.Core.Path.{◌≡◌, ap}
use Prim.Native.Nat.{◌-◌, ◌<◌}
use native.Mathlib.Omega.{arith}
use Rattle.steps.proofs.Pairs.{one_of_both}
use Rattle.mortgage.specs.Row.{places}
use Rattle.mortgage.specs.Kinds.{level}
use Rattle.mortgage.proofs.SteadyKinds.{interest_along, no_last_along, level_month}
use Rattle.mortgage.proofs.DrawCases.{wide}
use Rattle.mortgage.proofs.PlaceLaws.{both_counted}
use Rattle.mortgage.proofs.pairs.pair_rows.Goals as goal

pub ordinary_month-requires : goal.ordinary_month-requires
ordinary_month-requires c =
    let course = c.level_course-x_course in
    let here = c.loop-k.invariant.x_state in
    record { only_le_done = no_last_along course.result _ _ _ course.ensures here c.args.most (omega arith) c.requires.most_bound.0; interest_value = rw c.monthly_rate-x_rate.ensures (interest_along course.result _ _ _ course.ensures here) }

pub ordinary_month-requires-in-loop-k : goal.ordinary_month-requires-in-loop-k
ordinary_month-requires-in-loop-k c =
    let course = c.level_course-y_course in
    let here = c.loop-k.invariant.y_state in
    record { only_le_done = no_last_along course.result _ _ _ course.ensures here c.args.most (omega arith) c.requires.most_bound.1; interest_value = rw c.monthly_rate-y_rate.ensures (interest_along course.result _ _ _ course.ensures here) }

pub loop-k-preserved : goal.loop-k-preserved
loop-k-preserved c =
    let i = c.loop-k.invariant in
    let x = level_month c.level_course-x_course.result _ _ _ c.level_course-x_course.ensures i.x_state _ _ c.in-Some.ensures in
    let y = level_month c.level_course-y_course.result _ _ _ c.level_course-y_course.ensures i.y_state _ _ c.in-Some-ordinary_month.ensures in
    let below : c.loop-k.k < c.args.most = omega arith in
    one_of_both (wide level) i c.requires.most_nonzero.1 below (ap places x.0) x.1 (ap places y.0) y.1 c.put_row.ensures c.put_row-in-loop-k.ensures

pub returns-after-loop-k : goal.returns-after-loop-k
returns-after-loop-k c = let r = both_counted c.loop-k.invariant (omega arith) in record { laid = r.0; below = r.1 }

pub returns-in_default : goal.returns-in_default
returns-in_default c = let r = both_counted c.loop-k.invariant (omega arith) in record { laid = r.0; below = r.1 }

pub returns-in_default-ordinary_month : goal.returns-in_default-ordinary_month
returns-in_default-ordinary_month c = let r = both_counted c.loop-k.invariant (omega arith) in record { laid = r.0; below = r.1 }
