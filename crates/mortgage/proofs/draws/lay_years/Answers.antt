-- `mortgage::draws::lay_years` meets its contract: after each turn the room begins with the rows so far, up to a year's end or to the last that is asked for. Assumes nothing.
use native.Mathlib.Omega.{arith}
use Rattle.mortgage.proofs.YearByYear.{none_yet, another, begun_term, begun_done, year_layable, a_year}
use Rattle.mortgage.proofs.draws.lay_years.Goals as goal

pub loop-k-init : goal.loop-k-init
loop-k-init c = let a = c.args in none_yet a.adjustment a.index.now a.count a.loan a.room.now c.coming_behind-coming.result c.coming_behind-coming.ensures

pub with_coming-begun-requires : goal.with_coming-begun-requires
with_coming-begun-requires c = let a = c.args in another a.adjustment a.index.now c.loop-k.invariant c.requires.layable c.loop-k-test.true

pub overflow_add-begun : goal.overflow_add-begun
overflow_add-begun c =
    let a = c.args in
    omega (arith, begun_done a.adjustment a.index.now c.loop-k.invariant c.requires.layable c.loop-k-test.true c.with_coming-begun.ensures)

pub coming_behind-coming-requires-in-loop-k : goal.coming_behind-coming-requires-in-loop-k
coming_behind-coming-requires-in-loop-k c =
    let a = c.args in
    rw (begun_term a.adjustment a.index.now c.loop-k.invariant c.requires.layable c.loop-k-test.true c.with_coming-begun.ensures) c.requires.listed.1

pub lay_year-l-requires-clause-layable : goal.lay_year-l-requires-clause-layable
lay_year-l-requires-clause-layable c =
    let a = c.args in
    year_layable a.adjustment a.index.now c.loop-k.invariant c.requires.layable c.loop-k-test.true c.with_coming-begun.ensures c.min-n.ensures c.loop-k.auto.room

pub loop-k-preserved : goal.loop-k-preserved
loop-k-preserved c =
    let a = c.args in
    a_year a.adjustment a.index.now c.loop-k.invariant c.requires.layable c.loop-k-test.true c.with_coming-begun.ensures c.min-n.ensures c.lay_year-l.ensures c.coming_behind-coming-in-loop-k.ensures
