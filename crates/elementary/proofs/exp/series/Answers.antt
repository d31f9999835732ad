-- `elementary::exp::series` meets its contract: the whole table is the row of 1/k!, each rounded once. Assumes nothing.
use Rattle.std.proofs.Common.{refl, ◌∙◌}
use lib.Ieee.{round, of_bits}
use Rattle.elementary.specs.Exp.{factorial, inverse_factorial}
use Rattle.elementary.proofs.Horners.{by_table}
use Rattle.elementary.proofs.Tables.{row}
use Rattle.elementary.proofs.exp.series.Goals as goal

pub returns : goal.returns
unfolding row factorial inverse_factorial round of_bits
returns c = c.horner.ensures ∙ by_table c.args.r inverse_factorial _ 13 refl
