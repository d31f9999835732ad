-- `swaps::terms::notional` meets its contract, for a swap of either kind. Assumes nothing.
use mathlib.Core.Path.{sym, ap}
use Rattle.swaps.specs.declared.AnySwap.{AnySwap}
use Rattle.swaps.specs.Periods.{terms_of}
use Rattle.swaps.proofs.terms.notional.Goals as goal

pub returns-in-Undated : goal.returns-in-Undated
unfolding terms_of
returns-in-Undated c = ap (λ (x : AnySwap). (terms_of x).notional) (sym c.in-Undated.is)

pub returns-in-Dated : goal.returns-in-Dated
unfolding terms_of
returns-in-Dated c = ap (λ (x : AnySwap). (terms_of x).notional) (sym c.in-Dated.is)
