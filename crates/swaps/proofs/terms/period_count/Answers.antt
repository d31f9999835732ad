-- `swaps::terms::period_count` meets its contract, for a swap of either kind. Assumes nothing.
use mathlib.Core.Path.{sym, ap, subst, ◌∙◌}
use Rattle.swaps.specs.declared.AnySwap.{AnySwap}
use Rattle.swaps.specs.Periods.{of_swap, terms_of}
use Rattle.swaps.specs.inner.Runs.{HasPeriods}
use Rattle.swaps.proofs.terms.period_count.Goals as goal

pub period_count-requires : goal.period_count-requires
period_count-requires c = subst HasPeriods c.in-Dated.is c.requires

pub returns-in-Undated : goal.returns-in-Undated
unfolding terms_of of_swap
returns-in-Undated c = c.payments.ensures ∙ ap (λ (x : AnySwap). (terms_of x).periods.count) (sym c.in-Undated.is)

pub returns-in-Dated : goal.returns-in-Dated
unfolding terms_of
returns-in-Dated c = c.period_count.ensures ∙ ap (λ (x : AnySwap). (terms_of x).periods.count) (sym c.in-Dated.is)
