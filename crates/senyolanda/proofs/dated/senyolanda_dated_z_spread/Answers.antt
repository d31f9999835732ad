-- `senyolanda::dated::senyolanda_dated_z_spread` meets its contract: the flows are parted, and what is asked of them is the answer at their times and amounts. Assumes nothing.
use Rattle.std.proofs.Common.{rules}
use mathlib.Core.Path.{◌≡◌, refl}
use mathlib.Core.List.{List}
use mathlib.Core.Bool.{false}
use lib.Ieee.{Float}
use Rattle.refusals.specs.Table.{bad_number}
use Rattle.spread_analytics.specs.Spread.{spread_of, z_spread, spread_outcome}
use Rattle.senyolanda.proofs.DatedAmounts.{over_flows}
use Rattle.senyolanda.proofs.Handed.{told_as}
use Rattle.senyolanda.proofs.dated.senyolanda_dated_z_spread.Goals as goal

pub returns : goal.returns
unfolding z_spread
returns c =
    let a = c.args in
    told_as _ _ _ _ _ c.put_spread.ensures
    (over_flows (λ (times amounts : List Float). spread_of times amounts a.tenors.now a.rates.now a.market) (bad_number a.market) a.flows.now a.tenors.now a.rates.now spread_outcome (λ r. refl) _
    c.of_flows-spread.ensures.odd c.of_flows-spread.ensures.even (λ times amounts p. search rules))
