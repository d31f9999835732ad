-- `put` of `Record` for `Terms` meets its contract. Assumes nothing.
use Rattle.std.proofs.Common.{◌≡◌, ◌∙◌}
use Rattle.records.specs.Kinds.{terms_layout}
use Rattle.records.proofs.FieldLists.{puts, puts_is}
use Rattle.records.proofs.terms_record.TermsRecord.put.Goals as goal

pub returns : goal.returns
returns c =
    let held = terms_layout.held_of c.args.self in
    let stored : c.put_whole.new.out ≡ puts c.args.out.now 1 terms_layout.fields held = cc in
    stored ∙ puts_is c.args.out.now 1 terms_layout.fields held
