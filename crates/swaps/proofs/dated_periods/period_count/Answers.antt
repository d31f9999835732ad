-- `swaps::dated_periods::period_count` meets its contract: the periods are those of its span. Assumes nothing.
use mathlib.Core.Path.{◌≡◌, sym, ap, subst, ◌∙◌}
use mathlib.Core.Bool.{true}
use Rattle.dates.specs.declared.periods.Span.{Span}
use Rattle.dates.specs.Periods.{is_span, period_count}
use Rattle.swaps.specs.Periods.{of_dates}
use Rattle.swaps.proofs.DatedSpans.{frequency_low}
use Rattle.swaps.proofs.dated_periods.period_count.Goals as goal

pub span_of-requires : goal.span_of-requires
span_of-requires c = frequency_low c.args.swap c.requires

pub returns : goal.returns
unfolding of_dates
returns c = c.period_count.ensures (subst (λ (s : Span). is_span s ≡ true) (sym c.span_of.ensures) c.requires) ∙ ap period_count c.span_of.ensures
