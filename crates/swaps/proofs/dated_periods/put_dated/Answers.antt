-- `swaps::dated_periods::put_dated` meets its contract: the days of its span's periods, as fractions of a year. Assumes nothing.
use Rattle.std.proofs.Common.{◌≡◌, length, sym, ap, ◌∙◌, arith}
use Rattle.std.proofs.lemmas.Grind.{common_steps}
use Rattle.dates.specs.Periods.{period_count}
use Rattle.swaps.proofs.DatedSpans.{frequency_low}
use Rattle.swaps.proofs.DatedDays.{span_is, days_in_front, dated_listed}
use Rattle.swaps.proofs.dated_periods.put_dated.Goals as goal

pub span_of-requires : goal.span_of-requires
span_of-requires c = frequency_low c.args.swap c.requires.0

pub returns : goal.returns
returns c =
    let a = c.args in
    let xs = c.put_days.new.elapsed in
    let ys = c.put_days.new.counted in
    let kept : length xs ≡ length c.put_fractions.new.fractions = grind (arith, common_steps) in
    let alike : length ys ≡ length c.put_fractions.new.fractions = grind (arith, common_steps) in
    let within = ap period_count c.span_of.ensures in
    let listed = c.put_days.ensures (span_is _ a.swap c.span_of.ensures c.requires.0) (omega (arith, c.requires.1, within, kept)) (omega (arith, c.requires.2, kept)) (kept ∙ sym alike) in
    dated_listed a.swap _ c.span_of.ensures _ c.by_thirties.ensures a.first _ _ _ (days_in_front _ _ a.first _ xs ys _ _ kept alike listed) c.put_fractions.new.fractions c.put_fractions-2.new.fractions
    c.put_fractions.ensures (λ j h. c.put_fractions-2.ensures j (omega (arith, h, c.requires.3)))
