-- `curves::each::next_segment` meets its contract: what an earlier time is past, a later one is too. Assumes nothing.
use Rattle.curves.specs.inner.Kinds.{rule_of}
use Rattle.curves.proofs.Onward.{later_too}
use Rattle.curves.proofs.each.next_segment.Goals as goal

pub returns-then-before-t : goal.returns-then-before-t
returns-then-before-t c rises past =
    let a = c.args in
    c.onward_on.ensures (later_too (rule_of a.kind) a.times.now a.before a.t a.segment c.if-before-t.true past)
