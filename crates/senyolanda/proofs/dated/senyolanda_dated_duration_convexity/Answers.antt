-- `senyolanda::dated::senyolanda_dated_duration_convexity` meets its contract: the flows are parted, and what is asked of them is the answer at their times and amounts. Assumes nothing.
use Rattle.std.proofs.Common.{rules}
use mathlib.Core.Path.{◌≡◌, refl}
use mathlib.Core.List.{List}
use mathlib.Core.Bool.{false}
use lib.Ieee.{Float}
use Rattle.refusals.specs.Answers.{outcome}
use Rattle.spread_analytics.specs.Spread.{sensitivity_of, duration_convexity}
use Rattle.senyolanda.proofs.DatedAmounts.{over_flows}
use Rattle.senyolanda.specs.Told.{told}
use Rattle.std.proofs.Common.{arith}
use Rattle.std.proofs.lemmas.Grind.{common_steps}
use Rattle.senyolanda.proofs.dated.senyolanda_dated_duration_convexity.Goals as goal

pub returns : goal.returns
unfolding duration_convexity told
returns c =
    let a = c.args in
    let e = over_flows (λ (times amounts : List Float). sensitivity_of times amounts a.tenors.now a.rates.now a.points) false a.flows.now a.tenors.now a.rates.now outcome (λ r. refl) c.of_flows-given.result
    c.of_flows-given.ensures.odd c.of_flows-given.ensures.even (λ times amounts p. search rules) in
    grind (arith, common_steps)
