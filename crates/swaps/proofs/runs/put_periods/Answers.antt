-- `swaps::runs::put_periods` meets its contract, for a swap of either kind. Assumes nothing.
use mathlib.Core.Path.{subst}
use Prim.Native.Nat.{◌+◌, ◌≤◌}
use lib.ListN.{length}
use Rattle.swaps.specs.declared.AnySwap.{AnySwap}
use Rattle.swaps.specs.Periods.{of_dates, terms_of}
use Rattle.swaps.specs.inner.Runs.{HasPeriods}
use Rattle.swaps.proofs.PeriodLists.{of_same_swap}
use Rattle.swaps.proofs.runs.put_periods.Goals as goal

pub put_dated-requires : goal.put_dated-requires
unfolding terms_of of_dates
put_dated-requires c =
    let is = c.in-Dated.is in
    (subst HasPeriods is c.requires.0, subst (λ (x : AnySwap). c.args.first + length c.args.times.now ≤ (terms_of x).periods.count) is c.requires.1, c.requires.3, c.requires.4)

pub returns-in-Undated : goal.returns-in-Undated
unfolding terms_of
returns-in-Undated c = of_same_swap _ _ _ _ c.in-Undated.is c.put_undated.ensures

pub returns-in-Dated : goal.returns-in-Dated
unfolding terms_of
returns-in-Dated c = of_same_swap _ _ _ _ c.in-Dated.is c.put_dated.ensures
