-- `bond::worked::Worked::yield_in_bracket` meets its contract: the tests pick the bracket. Assumes nothing.
use Rattle.bond.proofs.BracketTests.{in_narrow, in_wide, in_neither}
use Rattle.bond.proofs.worked.Worked.yield_in_bracket.Goals as goal

pub returns-then-one_sided : goal.returns-then-one_sided
returns-then-one_sided c =
    in_neither _ _ _ _ _ _ c.start_in-narrow.ensures c.one_sided.ensures c.if-not-one_sided.false c.start_in-wide.ensures
    c.one_sided-2.ensures _ c.if-one_sided.true c.refuse.ensures

pub returns : goal.returns
returns c =
    in_wide _ _ _ _ _ _ c.start_in-narrow.ensures c.one_sided.ensures c.if-not-one_sided.false c.start_in-wide.ensures
    c.one_sided-2.ensures _ c.if-one_sided.false c.searched-2.ensures

pub returns-then-not-one_sided : goal.returns-then-not-one_sided
returns-then-not-one_sided c = in_narrow _ _ _ _ _ c.start_in-narrow.ensures c.one_sided.ensures c.if-not-one_sided.true c.searched.ensures
