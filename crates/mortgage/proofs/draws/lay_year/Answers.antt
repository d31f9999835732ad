-- `mortgage::draws::lay_year` meets its contract: the ordinary months and then the rest are all the rows. Assumes nothing.
use native.Mathlib.Omega.{arith}
use Rattle.mortgage.proofs.RowLaws.{not_alone_on}
use Rattle.mortgage.proofs.RowsLaid.{rest_layable, rows_joined}
use Rattle.mortgage.proofs.draws.lay_year.Goals as goal

pub lay_stretch-requires : goal.lay_stretch-requires
lay_stretch-requires c =
    let run = c.ordinary_rows-next in
    let before = run.ensures.laid in
    record { layable = rest_layable c.args.course before (omega arith) c.requires.layable run.auto.room; only_behind = not_alone_on c.args.course _ _ _ before.state (omega arith) }

pub returns : goal.returns
returns c = rows_joined c.args.course c.ordinary_rows-next.ensures.laid (omega arith) c.requires.layable c.lay_stretch.ensures
