-- `swaps::judging::judge_dated` meets its contract: line 15 after the others. Assumes nothing.
use mathlib.Core.Path.{◌∙◌}
use Rattle.refusals.proofs.LaterLines.{refused_first, accepted_first}
use Rattle.swaps.proofs.judging.judge_dated.Goals as goal

pub returns-in-Err : goal.returns-in-Err
returns-in-Err c = refused_first _ _ tt _ c.judge_but_dates.ensures _ c.in-Err.is

pub returns-in-Ok : goal.returns-in-Ok
returns-in-Ok c = c.judge_dates.ensures ∙ accepted_first _ _ tt _ c.judge_but_dates.ensures c.in-Ok.is
