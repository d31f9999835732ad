-- `bond::worked::Worked::searched` meets its contract: each turn of the loop is a pass of the definition. Assumes nothing.
use mathlib.Core.Path.{◌≡◌, sym, ◌∙◌}
use native.Mathlib.Omega.{arith}
use Prim.Native.Nat.{◌+◌, ◌-◌}
use Rattle.bond.proofs.Passes.{settles, goes_on, used_up}
use Rattle.bond.proofs.worked.Worked.searched.Goals as goal

pub returns-then-settled : goal.returns-then-settled
returns-then-settled c =
    let l = c.loop-done in
    sym (l.invariant ∙ settles _ _ (200 - l._done) l.search _ _ (omega arith) c.readied-ready.ensures c.settled.ensures c.if-settled.true)

pub loop-done-preserved : goal.loop-done-preserved
loop-done-preserved c =
    let l = c.loop-done in
    let less : 200 - (l._done + 1) ≡ 200 - l._done - 1 = omega arith in
    rw less (l.invariant ∙ goes_on _ _ (200 - l._done) l.search _ _ _ (omega arith) c.readied-ready.ensures c.settled.ensures c.if-settled.false c.passed-search.ensures)

pub returns : goal.returns
returns c = let l = c.loop-done in sym (l.invariant ∙ used_up _ _ (200 - l._done) l.search (omega arith))
