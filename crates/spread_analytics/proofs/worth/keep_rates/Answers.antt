-- `spread_analytics::worth::keep_rates` meets its contract: in the front of the room the times give way to their rates. Assumes nothing.
use Rattle.std.proofs.Common.{◌≡◌, ◌<◌, List, Float, ◌++◌, length, drop, ap, ◌∙◌, arith}
use Rattle.std.proofs.lemmas.Grind.{common_steps}
use Rattle.numbers.proofs.Mapped.{mapped_at}
use Rattle.curves.specs.declared.kinds.Kind.TheVariants as kind_is
use Rattle.curves.specs.Segments.{knot}
use Rattle.curves.specs.Kinds.{rate_on}
use Rattle.spread_analytics.specs.Curves.{rate_of}
use Rattle.spread_analytics.proofs.SpreadKind.{same_rate}
use Rattle.spread_analytics.proofs.worth.keep_rates.Goals as goal

pub returns : goal.returns
returns c i h =
    let a = c.args in
    let n = length a.times.now in
    let room = c.copy_from_slice.new.self ++ drop n a.kept.now in
    let copied : knot room i ≡ knot a.times.now i = grind (arith, common_steps) in
    let within : i < length room = grind (arith, common_steps) in
    ap (λ (front : List Float). knot (front ++ drop n room) i) (c.rates_onward.ensures c.requires.1) ∙ mapped_at (rate_on kind_is.SpreadCurve a.tenors.now a.rates.now) room n i h within
    ∙ same_rate a.tenors.now a.rates.now (knot room i) ∙ ap (rate_of a.tenors.now a.rates.now) copied
