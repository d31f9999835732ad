-- `curves::each::answer_eight` meets its contract: the times passed have given way to their answers. Assumes nothing.
use Rattle.std.proofs.Common.{◌≡◌, List, ℕ, suc, ◌-◌, length, get_or, take, sym, ap, ◌∙◌, arith}
use Rattle.std.proofs.lemmas.Grind.{common_steps}
use Rattle.std.proofs.lemmas.List.Edits.{map_over_more}
use Rattle.std.specs.Float.{nan}
use Rattle.curves.specs.Kinds.{served_by}
use Rattle.curves.specs.inner.Exponents.{answer_on}
use Rattle.curves.proofs.Halvings.{served_at}
use Rattle.curves.proofs.InnerKnots.{front_rises, inner_rate}
use Rattle.curves.proofs.Answers.{by_ends, one_answer}
use Rattle.curves.proofs.each.answer_eight.Goals as goal

pub loop-j-preserved : goal.loop-j-preserved
loop-j-preserved c = λ rises.
    let a = c.args in
    let times = a.times.now in
    let rates = a.rates.now in
    let n = length times - 1 in
    let j = c.loop-j.j in
    let i = get_or c.eight_on-segments.result j 0 in
    let t = get_or c.loop-j.asked j nan in
    let before = c.loop-j.invariant rises in
    let here : t ≡ get_or a.asked.now j nan = grind (arith, common_steps, before) in
    let counted : length times ≡ suc n = omega arith in
    let served : i ≡ served_by a.kind (take n times) t =
    ap (λ (l : List ℕ). get_or l j 0) (c.eight_on-segments.ensures.value (front_rises times n (omega arith) rises))
    ∙ served_at (served_by a.kind (take n times)) j a.asked.now (omega arith) ∙ ap (served_by a.kind (take n times)) (sym here)
    in
    let is : c.answer_along.result ≡ answer_on a.kind a.exponents times rates t =
    one_answer a.kind times rates a.exponents t _ _ (rw served (inner_rate times rates n counted (omega arith) rises a.kind t))
    (by_ends a.kind times rates a.exponents t i _ _ _ _ _ _ _ _ _ c.outside_of-outside.ensures c.inner_ends-ends.ensures c.answer_along.ensures)
    in
    grind (arith, common_steps, map_over_more (answer_on a.kind a.exponents times rates), before, is)

pub returns : goal.returns
returns c = λ rises. let done = c.loop-j.invariant rises in grind (arith, common_steps, done)
