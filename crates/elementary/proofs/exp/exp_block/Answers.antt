-- `elementary::exp::exp_block` meets its contract: the steps at each number are the definition's. Assumes nothing.
use Rattle.std.proofs.Common.{◌≡◌, true, get_or, arith, rules}
use Rattle.std.specs.Float.{nan}
use Rattle.elementary.specs.Exp.{exp}
use Rattle.elementary.proofs.ExpSteps.{steps}
use Rattle.elementary.proofs.InPlace.{map_over_at}
use Rattle.elementary.proofs.exp.exp_block.Goals as goal

pub loop-i-preserved : goal.loop-i-preserved
loop-i-preserved g c =
    let xs = c.args.numbers.now in
    let i = c.loop-i.i in
    let all : c.all_inside.result ≡ true = search rules in
    let inside = c.all_inside.ensures all i (omega arith) in
    let ready = c.loop-j.invariant in
    map_over_at exp xs _ i _ nan (omega arith) c.loop-i.invariant (steps (get_or xs i nan) inside _ _ _ (ready.0.at i (omega arith)) c.series.ensures (ready.1.at i (omega arith)))
