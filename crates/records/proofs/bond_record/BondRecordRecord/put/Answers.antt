-- `put` of `Record` for `BondRecord` meets its contract: its fields are put one after the other. Assumes nothing.
use Rattle.std.proofs.Common.{◌≡◌, ◌∙◌, set, ◌-◌}
use Rattle.records.specs.Kinds.{bond_layout, bond_size}
use Rattle.records.proofs.FieldLists.{puts, puts_is}
use Rattle.records.proofs.bond_record.BondRecordRecord.put.Goals as goal

pub returns : goal.returns
returns c =
    let held = bond_layout.held_of c.args.self in
    let stored : set c.put_float-3.new.out (bond_size - 1) c.args.self.frequency ≡ puts c.args.out.now 1 bond_layout.fields held = cc in
    stored ∙ puts_is c.args.out.now 1 bond_layout.fields held
