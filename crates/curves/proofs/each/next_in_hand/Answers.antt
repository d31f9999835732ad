-- `curves::each::next_in_hand` meets its contract: the segment in hand serves a later time whose test its end passes. Assumes nothing.
use mathlib.Core.Path.{refl, sym, ◌∙◌}
use Rattle.curves.proofs.Answers.{still_on}
use Rattle.curves.proofs.each.next_in_hand.Goals as goal

pub returns-then-passes_on : goal.returns-then-passes_on
returns-then-passes_on c rises past ends =
    let a = c.args in (
      refl,
      still_on a.kind a.times.now a.hand.time a.t a.hand.segment a.hand.ends.t1 ends.1 c.if-hand-t.true past (sym c.passes_on.ensures ∙ c.if-passes_on.true),
      ends,
    )
