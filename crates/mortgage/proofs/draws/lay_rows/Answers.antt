-- `mortgage::draws::lay_rows` meets its contract: the ordinary months and then the rest are all the rows. Assumes nothing.
use native.Mathlib.Omega.{arith}
use Rattle.mortgage.proofs.RowsLaid.{rest_layable, rows_joined}
use Rattle.mortgage.proofs.draws.lay_rows.Goals as goal

pub any_rows-requires : goal.any_rows-requires
any_rows-requires c = let run = c.ordinary_rows-next in rest_layable c.args.course run.ensures.laid (omega arith) c.requires.layable run.auto.room

pub returns : goal.returns
returns c = rows_joined c.args.course c.ordinary_rows-next.ensures.laid (omega arith) c.requires.layable c.any_rows.ensures
