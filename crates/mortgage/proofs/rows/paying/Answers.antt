-- `mortgage::rows::paying` meets its contract. Assumes nothing.
use mathlib.Core.Path.{◌∙◌}
use lib.Ieee.{binary64}
use lib.Ieee.Fits.{sub-fits}
use Rattle.mortgage.proofs.RuleLaws.{nothing_added}
use Rattle.mortgage.proofs.rows.paying.Goals as goal

pub returns : goal.returns
returns c =
    let m = c.month_of.ensures in
    let shown = c.raise_to_zero.ensures ∙ nothing_added _ (sub-fits binary64 _ _) in
    record { row_value = rw (← shown) m.row_value; next_value = m.next_value }
