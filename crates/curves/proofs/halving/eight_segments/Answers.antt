-- `curves::halving::eight_segments` meets its contract: each turn of the outer loop is a turn of all eight lanes. Assumes nothing.
use Rattle.std.proofs.Common.{refl, length-set}
use Rattle.curves.proofs.Halvings.{partly_next, all_end}
use Rattle.curves.proofs.halving.eight_segments.Goals as goal

pub loop-j-preserved : goal.loop-j-preserved
loop-j-preserved g c =
    let held = c.loop-j.invariant in
    (simp length-set held.0, partly_next _ _ _ _ _ _ _ _ c.loop-left-test.true refl c.loop-j-test.true held.0 held.1 c.stepped.ensures)

pub returns-clause-value : goal.returns-clause-value
returns-clause-value g c = λ rises. all_end _ _ _ _ _ c.loop-left-test.false c.requires c.loop-left.invariant.0 c.loop-left.invariant.1 rises
