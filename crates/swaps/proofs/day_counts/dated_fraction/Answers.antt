-- `swaps::day_counts::dated_fraction` meets its contract: the days by each day count, over its year. Assumes nothing.
use mathlib.Core.Path.{◌≡◌, sym, ap, ◌∙◌}
use Rattle.refusals.specs.Outcome.{accepted}
use Rattle.refusals.proofs.Verdicts.{refused_as}
use Rattle.refusals.proofs.OneCause.{caused, all_clear}
use Rattle.swaps.specs.DayCounts.{day_fraction, days_by, dated_fraction, dated_fraction_of}
use Rattle.swaps.proofs.DatedSpans.{both_are_dates}
use Rattle.swaps.proofs.DaysBy.{over_360, over_365, by_thirties_lem}
use Rattle.swaps.proofs.day_counts.dated_fraction.Goals as goal
use Rattle.swaps.proofs.day_counts.dated_fraction.Goals.{in-Actual360, in-Actual365, in-Thirty360}

pub returns-then-bad_dates : goal.returns-then-bad_dates
unfolding dated_fraction_of
returns-then-bad_dates c = refused_as 15 _ _ c.refuse.ensures (caused _ 15 _ _ (sym c.bad_dates.ensures ∙ c.if-bad_dates.true))

pub returns : goal.returns
unfolding dated_fraction_of dated_fraction
returns c =
    let a = c.args in
    let free = sym c.bad_dates.ensures ∙ c.if-bad_dates.false in
    let dates = both_are_dates a.first a.second free in
    let days : c.match-day_count.days ≡ days_by a.day_count a.first a.second =
    elim c.match-day_count.branch [
      | in-Actual360 w ↦ over_360 a.day_count a.first a.second w.days-is w.in-Actual360.is (w.actual_days-days.ensures dates.0 dates.1)
      | in-Actual365 w ↦ over_365 a.day_count a.first a.second w.days-is w.in-Actual365.is (w.actual_days-days-in-Actual365.ensures dates.0 dates.1)
      | in-Thirty360 w ↦ by_thirties_lem a.day_count a.first a.second w.days-is w.in-Thirty360.is w.thirty_days-days.ensures
    ] in
    ap accepted (c.day_count_fraction.ensures ∙ ap (day_fraction a.day_count) days) ∙ all_clear _ 15 _ free
