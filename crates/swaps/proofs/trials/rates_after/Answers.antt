-- `swaps::trials::rates_after` meets its contract. Assumes nothing.
use mathlib.Core.Path.{ap, ◌∙◌}
use mathlib.Core.List.{map}
use Prim.Native.Nat.{ℕ}
use native.Mathlib.Numerals.{add-one}
use lib.Ieee.{Float}
use Rattle.curves.specs.Segments.{knot}
use Rattle.swaps.specs.inner.Knots.{with_rate}
use Rattle.swaps.proofs.TriedRates.{each_past}
use Rattle.swaps.proofs.trials.rates_after.Goals as goal

pub returns-then-i-earlier : goal.returns-then-i-earlier
returns-then-i-earlier c =
    let a = c.args in
    c.rates_with.ensures ∙ ap (λ (n : ℕ). map (λ (x : Float). knot (with_rate a.earlier.now x) n) a.rates) (add-one a.i)

pub returns : goal.returns
returns c =
    let a = c.args in
    each_past a.earlier.now a.rates a.i c.requires _ c.if-i-earlier.false c.knot_at.ensures
