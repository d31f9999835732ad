-- `swaps::judging::judge_any` meets its contract, for a swap of either kind. Assumes nothing.
use mathlib.Core.Path.{sym, ap, ◌∙◌}
use Rattle.refusals.specs.Outcome.{judged}
use Rattle.swaps.specs.declared.AnySwap.{AnySwap}
use Rattle.swaps.specs.Periods.{lines_of}
use Rattle.swaps.proofs.judging.judge_any.Goals as goal

pub returns-in-Undated : goal.returns-in-Undated
returns-in-Undated c =
    let a = c.args in
    c.judge_swap.ensures ∙ ap (λ (x : AnySwap). judged (lines_of x a.tenors.now a.zeros.now) tt) (sym c.in-Undated.is)

pub returns-in-Dated : goal.returns-in-Dated
returns-in-Dated c =
    let a = c.args in
    c.judge_dated.ensures ∙ ap (λ (x : AnySwap). judged (lines_of x a.tenors.now a.zeros.now) tt) (sym c.in-Dated.is)
