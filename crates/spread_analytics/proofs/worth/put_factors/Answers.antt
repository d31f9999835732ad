-- `spread_analytics::worth::put_factors` meets its contract: each exponent's exp stands in its place. Assumes nothing.
use mathlib.Core.Path.{sym, ap, ◌∙◌}
use mathlib.Core.List.{List, ◌++◌}
use Prim.Native.Nat.{◌≤◌}
use lib.ListN.{length, drop}
use lib.Seq.{length-take-le}
use lib.Ieee.{Float}
use Rattle.elementary.specs.Exp.{exp}
use Rattle.curves.specs.Segments.{knot}
use Rattle.numbers.proofs.Mapped.{mapped_at}
use native.Mathlib.Omega.{arith}
use Rattle.spread_analytics.proofs.worth.put_factors.Goals as goal

pub slice_bounds-exp_each-end-2 : goal.slice_bounds-exp_each-end-2
slice_bounds-exp_each-end-2 c =
    let n = length c.args.times.now in
    let e = c.put_exponents in
    let room : n ≤ length e.new.exponents = omega (arith, e.auto.exponents) in
    sym (length-take-le n e.new.exponents room)

pub returns : goal.returns
returns c =
    let n = length c.args.times.now in
    let e = c.put_exponents in
    let l = e.new.exponents in
    let room : n ≤ length l = omega (arith, e.auto.exponents) in
    λ i h. ap (λ (m : List Float). knot (m ++ drop n l) i) c.exp_each.ensures ∙ mapped_at exp l n i h (omega arith) ∙ ap exp (e.ensures i h)
