-- `spread_analytics::worth::factors_of` meets its contract: over the curve's own rates the factors are the curve's. Assumes nothing.
use mathlib.Core.Path.{ap, ◌∙◌}
use lib.Ieee.{Float, binary64, neg, add, mul}
use Rattle.elementary.specs.Exp.{exp}
use Rattle.curves.specs.Segments.{knot}
use Rattle.spread_analytics.proofs.worth.factors_of.Goals as goal

pub returns : goal.returns
returns c =
    let a = c.args in
    (c.put_factors.auto.factors, λ i h. c.put_factors.ensures i h ∙ ap (λ (z : Float). exp (mul binary64 (neg (add binary64 z a.spread.0)) (knot a.times.now i))) (c.keep_rates.ensures i h))
