-- `mortgage::draws::lay_course` meets its contract: the months of interest alone and then the others are all the rows. Assumes nothing.
use native.Mathlib.Omega.{arith}
use Rattle.mortgage.proofs.RowLaws.{not_alone_on}
use Rattle.mortgage.proofs.RowsLaid.{rest_layable, rows_joined}
use Rattle.mortgage.proofs.draws.lay_course.Goals as goal

pub lay_stretch-requires-2 : goal.lay_stretch-requires-2
lay_stretch-requires-2 c =
    let alone = c.any_rows-next in
    record { layable = rest_layable c.args.course alone.ensures (omega arith) c.requires alone.auto.room; only_behind = not_alone_on c.args.course _ _ _ alone.ensures.state (omega arith) }

pub returns : goal.returns
returns c = rows_joined c.args.course c.any_rows-next.ensures (omega arith) c.requires c.lay_stretch-2.ensures
