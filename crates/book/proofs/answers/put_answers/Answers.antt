-- `book::answers::put_answers` meets its contract: after i turns the first i answers stand. Assumes nothing.
use native.Mathlib.Omega.{arith}
use Rattle.steps.proofs.Places.{none_put, one_more, all_put}
use Rattle.book.proofs.answers.put_answers.Goals as goal

pub loop-i-init : goal.loop-i-init
loop-i-init c = (omega arith, none_put _ _)

pub loop-i-preserved : goal.loop-i-preserved
loop-i-preserved c =
    let h = c.loop-i in
    (omega arith, one_more _ _ _ _ _ h.invariant.1 (omega arith) c.asking_at.ensures.0)

pub shape_of-answers : goal.shape_of-answers
shape_of-answers c = c.loop-i.invariant.1.kept

pub returns : goal.returns
returns c = all_put _ _ _ _ _ c.loop-i.invariant.1 (omega arith)
