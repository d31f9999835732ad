-- `swaps::knots::next_zero` meets its contract: the errors at the ends decide, and the first two halvings go by errors that were worked out with them. Assumes nothing.
use Rattle.std.proofs.Common.{◌≡◌, true, refl, sym, ◌∙◌}
use Rattle.swaps.specs.Bootstrap.{no_change}
use Rattle.swaps.specs.inner.Knots.{error_of}
use Rattle.swaps.proofs.Bisecting.{low_end_tried, high_end_tried, started, too_low, too_high, not_solved, solved, solved_at}
use Rattle.swaps.proofs.knots.next_zero.Goals.{then-errors-via-then-errors, then-errors-via-else-errors+then-errors-2}
use Rattle.swaps.proofs.knots.next_zero.Goals as goal

pub last_of-knot-requires : goal.last_of-knot-requires
last_of-knot-requires c = c.requires

pub errors_of-errors-requires : goal.errors_of-errors-requires
errors_of-errors-requires c = (c.last_of-knot.ensures.2, refl)

pub returns-then-errors : goal.returns-then-errors
returns-then-errors c =
    let a = c.args in
    let error = error_of a.tenors.now a.earlier.now c.last_of-knot.result in
    let low = low_end_tried error _ c.errors_of-errors.ensures in
    let none : no_change error ≡ true = elim c.then-errors.branch [
      | then-errors-via-then-errors w ↦ sym (too_low error _ low w.if-errors.true)
      | then-errors-via-else-errors+then-errors-2 w ↦ sym (too_high error _ _ low w.if-errors.false (high_end_tried error _ c.errors_of-errors.ensures)) ∙ w.if-errors-2.true
    ] in
    c.ln.ensures ∙ not_solved error _ none ∙ solved_at a.tenors.now a.earlier.now _ c.last_of-knot.ensures.0 c.last_of-knot.ensures.1

pub bisect-requires : goal.bisect-requires
bisect-requires c = c.last_of-knot.ensures.2

pub returns : goal.returns
returns c =
    let a = c.args in
    let error = error_of a.tenors.now a.earlier.now c.last_of-knot.result in
    let are = c.errors_of-errors.ensures in
    c.bisect.ensures
    ∙ sym (started error _ are _ _ _ _ _ c.half_of-halves.ensures.0 c.half_of-halves.ensures.1 c.by_way.ensures c.half_of-quarters.ensures.0 c.half_of-quarters.ensures.1)
    ∙ solved error _ (sym (too_high error _ _ (low_end_tried error _ are) c.if-errors.false (high_end_tried error _ are)) ∙ c.if-errors-2.false)
    ∙ solved_at a.tenors.now a.earlier.now _ c.last_of-knot.ensures.0 c.last_of-knot.ensures.1
