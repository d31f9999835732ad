-- `swaps::runs::put_undated` meets its contract: the times passed are written. Assumes nothing.
use Rattle.std.proofs.Common.{◌≡◌, ℕ, ◌<◌, length, arith}
use Rattle.std.proofs.lemmas.Grind.{elements}
use Rattle.curves.specs.Segments.{knot}
use Rattle.swaps.proofs.PeriodLists.{undated_listed}
use Rattle.swaps.proofs.runs.put_undated.Goals as goal

pub returns : goal.returns
returns c =
    let each : (j : ℕ) → j < length c.loop-j.times → knot c.fill.new.self j ≡ c.fraction.result = λ j h. grind (arith, elements, c.fill.ensures.clones j) in
    undated_listed c.args.swap c.args.first (length c.loop-j.times) c.loop-j.times c.fill.new.self c.period-dt.result c.fraction.result c.period-dt.ensures c.fraction.ensures
    (λ j h. c.loop-j.invariant j (omega (arith, c.loop-j-test.false))) each
