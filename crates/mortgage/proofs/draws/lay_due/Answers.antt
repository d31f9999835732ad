-- `mortgage::draws::lay_due` meets its contract: the rows laid are those that are due and that the room holds. Assumes nothing.
use lib.ListN.{length}
use Rattle.mortgage.specs.Kinds.{way_of}
use Rattle.mortgage.proofs.DrawOrder.{may_lay, due_layable}
use Rattle.mortgage.proofs.draws.lay_due.Goals as goal

pub lay_kind-requires : goal.lay_kind-requires
lay_kind-requires c =
    let a = c.args in
    let way = way_of a.kind a.index.now in
    let may = may_lay way a.loan (length a.room.now) c.requires in
    record { layable = due_layable way a.loan a.room.now _ _ (c.kind_rows_due-due.ensures a.index.now) c.rows_within-written.ensures may.0.0; listed = (may.1, may.0.1) }
