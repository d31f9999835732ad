-- `put` of `Record` for `Row` meets its contract: its fields are put one after the other. Assumes nothing.
use Rattle.std.proofs.Common.{◌≡◌, ◌∙◌}
use Rattle.records.specs.Kinds.{row_layout}
use Rattle.records.proofs.FieldLists.{puts, puts_is}
use Rattle.records.proofs.row_record.RowRecord.put.Goals as goal

pub returns : goal.returns
returns c =
    let held = row_layout.held_of c.args.self in
    let stored : c.put_float-4.new.out ≡ puts c.args.out.now 1 row_layout.fields held = cc in
    stored ∙ puts_is c.args.out.now 1 row_layout.fields held
