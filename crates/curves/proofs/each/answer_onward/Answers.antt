-- `curves::each::answer_onward` meets its contract: the times passed have given way to their answers, and the last of them is past the segments before the one in hand. Assumes nothing.
use Rattle.std.proofs.Common.{◌≡◌, get_or, sym, subst, arith}
use Rattle.std.proofs.lemmas.Grind.{common_steps}
use Rattle.std.proofs.lemmas.List.Edits.{map_over_more}
use Rattle.std.specs.Prelude.{Float}
use Rattle.std.specs.Float.{nan}
use Rattle.curves.specs.inner.Exponents.{answer_on}
use Rattle.curves.specs.inner.Kinds.{PastOn}
use Rattle.curves.proofs.Answers.{by_ends, by_serving, past_on}
use Rattle.curves.proofs.each.answer_onward.Goals as goal

pub loop-t-preserved : goal.loop-t-preserved
loop-t-preserved c = λ rises.
    let a = c.args in
    let times = a.times.now in
    let rates = a.rates.now in
    let t = get_or c.loop-t.asked c.loop-t.t-index nan in
    let held = c.loop-t.invariant rises in
    let before = held.0 in
    let hand = c.next_in_hand-hand.result in
    let next = c.next_in_hand-hand.ensures rises held.1 held.2 in
    let is : c.answer_along.result ≡ answer_on a.kind a.exponents times rates t =
    by_serving a.kind times rates a.exponents t hand.segment _ next.1 (by_ends a.kind times rates a.exponents t hand.segment _ _ _ _ _ _ _ _ _ c.outside_of-outside.ensures next.2 c.answer_along.ensures)
    in (
      grind (arith, common_steps, map_over_more (answer_on a.kind a.exponents times rates), before, is),
      subst (λ (x : Float). PastOn a.kind times x hand.segment) (sym next.0) (past_on a.kind times t hand.segment next.1),
      next.2,
    )
