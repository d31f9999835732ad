-- `swaps::terms::end` meets its contract, for a swap of either kind. Assumes nothing.
use mathlib.Core.Path.{sym, ap, subst, ◌∙◌}
use Rattle.swaps.specs.declared.AnySwap.{AnySwap}
use Rattle.swaps.specs.Periods.{of_swap, terms_of}
use Rattle.swaps.specs.inner.Runs.{HasPeriods}
use Rattle.swaps.proofs.terms.end.Goals as goal

pub end-requires : goal.end-requires
end-requires c = subst HasPeriods c.in-Dated.is c.requires

pub returns-in-Undated : goal.returns-in-Undated
unfolding terms_of of_swap
returns-in-Undated c = ap (λ (x : AnySwap). (terms_of x).periods.end) (sym c.in-Undated.is)

pub returns-in-Dated : goal.returns-in-Dated
unfolding terms_of
returns-in-Dated c = c.end.ensures ∙ ap (λ (x : AnySwap). (terms_of x).periods.end) (sym c.in-Dated.is)
