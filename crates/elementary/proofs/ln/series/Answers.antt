-- `elementary::ln::series` meets its contract: the whole table is the row of 1/(2j+1), each rounded once. Assumes nothing.
use Rattle.std.proofs.Common.{refl, ◌∙◌}
use lib.Ieee.{round, of_bits}
use Rattle.elementary.specs.Ln.{inverse_odd}
use Rattle.elementary.proofs.Horners.{by_table}
use Rattle.elementary.proofs.Tables.{row}
use Rattle.elementary.proofs.ln.series.Goals as goal

pub returns : goal.returns
unfolding row inverse_odd round of_bits
returns c = c.horner.ensures ∙ by_table c.args.w inverse_odd _ 10 refl
