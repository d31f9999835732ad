-- `swaps::trials::zero_rates_with` meets its contract: flat before the first knot and past the last, and between them by the segment that ends at or after the time. Assumes nothing.
use Rattle.std.proofs.Common.{suc, ◌∙◌, rules}
use lib.Ieee.{Float}
use Rattle.curves.specs.Segments.{knot}
use Rattle.curves.specs.Formulas.{along_zeros}
use Rattle.curves.specs.Kinds.{along}
use Rattle.swaps.specs.inner.Knots.{with_rate}
use Rattle.swaps.proofs.TriedRates.{each_before, each_after_lem, each_between}
use Rattle.swaps.proofs.trials.zero_rates_with.Goals as goal

pub returns-then-t-knot_at : goal.returns-then-t-knot_at
returns-then-t-knot_at c =
    let a = c.args in
    c.rates_with.ensures ∙ each_before a.tenors.now a.earlier.now a.rates a.t _ c.knot_at.ensures c.if-t-knot_at.true

pub returns-then-last_knot-t : goal.returns-then-last_knot-t
returns-then-last_knot-t c =
    let a = c.args in
    each_after_lem a.tenors.now a.earlier.now a.rates a.t _ c.knot_at.ensures c.if-t-knot_at.false _ c.last_knot.ensures c.if-last_knot-t.true

pub returns : goal.returns
unfolding along
returns c =
    let a = c.args in
    let i = c.segment-i.result in
    let t0 = c.knot_at-t0.result in
    let t1 = c.knot_after-t1.result in
    c.change_each.ensures (λ (x y : Float). along_zeros (record { t0 = t0; t1 = t1; r0 = x; r1 = y }) a.t) (λ x y r p. search rules) a.rates
    (λ (x : Float). knot (with_rate a.earlier.now x) i) (λ (x : Float). knot (with_rate a.earlier.now x) (suc i)) c.requires.0 c.rates_with-along_each.ensures c.rates_after-seconds.ensures
    ∙ each_between a.tenors.now a.earlier.now a.rates a.t _ c.knot_at.ensures c.if-t-knot_at.false _ c.last_knot.ensures c.if-last_knot-t.false
    i (c.segment-i.ensures c.requires.1) _ _ c.knot_at-t0.ensures c.knot_after-t1.ensures
