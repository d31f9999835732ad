-- `swaps::trials::discounts_with` meets its contract. Assumes nothing.
use mathlib.Core.Path.{◌≡◌, sym, ap, ◌∙◌}
use mathlib.Core.List.{List, map}
use lib.ListN.{length, length-map}
use lib.Ieee.{Float}
use Rattle.elementary.specs.Exp.{exp}
use Rattle.swaps.specs.Discount.{zero_rate_of}
use Rattle.swaps.specs.inner.Knots.{with_rate}
use Rattle.swaps.specs.inner.Runs.{exponent_of}
use Rattle.swaps.proofs.TriedRates.{each_discount}
use Rattle.swaps.proofs.trials.discounts_with.Goals as goal

-- as many as there were
still_eight : (f : Float → Float) (xs ys : List Float) → length xs ≡ 8 → ys ≡ map f xs → length ys ≡ 8
still_eight f xs ys eight e = rw (e, length-map) eight

pub exponents_at-factors-requires : goal.exponents_at-factors-requires
exponents_at-factors-requires c =
    let a = c.args in
    still_eight (λ (x : Float). zero_rate_of a.tenors.now (with_rate a.earlier.now x) a.t) a.rates _ c.requires.0 c.zero_rates_with.ensures

pub slice_bounds-exp_each-end : goal.slice_bounds-exp_each-end
slice_bounds-exp_each-end c =
    let a = c.args in
    sym (still_eight (λ (x : Float). exponent_of x a.t) c.zero_rates_with.result _
    (still_eight (λ (x : Float). zero_rate_of a.tenors.now (with_rate a.earlier.now x) a.t) a.rates _ c.requires.0 c.zero_rates_with.ensures) c.exponents_at-factors.ensures)

pub returns : goal.returns
returns c =
    let a = c.args in
    c.exp_each.ensures ∙ ap (map exp) (c.exponents_at-factors.ensures ∙ ap (map (λ (x : Float). exponent_of x a.t)) c.zero_rates_with.ensures)
    ∙ each_discount a.tenors.now a.earlier.now a.t a.rates
