-- `put` of `Record` for `SwapRecord` meets its contract: its fields are put one after the other. Assumes nothing.
use Rattle.std.proofs.Common.{◌≡◌, ◌∙◌, set, ◌-◌}
use Rattle.records.specs.Kinds.{swap_layout, swap_size}
use Rattle.records.proofs.FieldLists.{puts, puts_is}
use Rattle.records.proofs.swap_record.SwapRecordRecord.put.Goals as goal

pub returns : goal.returns
returns c =
    let held = swap_layout.held_of c.args.self in
    let stored : set c.put_whole.new.out (swap_size - 1) c.args.self.count ≡ puts c.args.out.now 1 swap_layout.fields held = cc in
    stored ∙ puts_is c.args.out.now 1 swap_layout.fields held
