-- `senyolanda::dated::senyolanda_dated_pv` meets its contract: the flows are parted, and what is asked of them is the answer at their times and amounts. Assumes nothing.
use Rattle.std.proofs.Common.{rules}
use mathlib.Core.Path.{◌≡◌, refl}
use mathlib.Core.List.{List}
use mathlib.Core.Bool.{false}
use lib.Ieee.{Float}
use Rattle.refusals.specs.Answers.{outcome}
use Rattle.spread_analytics.specs.Spread.{worth_of, pv_cash_flows}
use Rattle.senyolanda.proofs.DatedAmounts.{over_flows}
use Rattle.senyolanda.proofs.Handed.{told_as}
use Rattle.senyolanda.proofs.dated.senyolanda_dated_pv.Goals as goal

pub returns : goal.returns
unfolding pv_cash_flows
returns c =
    let a = c.args in
    told_as _ _ _ _ _ c.put.ensures
    (over_flows (λ (times amounts : List Float). worth_of times amounts a.tenors.now a.rates.now a.points) false a.flows.now a.tenors.now a.rates.now outcome (λ r. refl) _
    c.of_flows-worth.ensures.odd c.of_flows-worth.ensures.even (λ times amounts p. search rules))
