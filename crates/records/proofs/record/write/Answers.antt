-- `records::record::write` meets its contract: behind the kind the fields fill the array. Assumes nothing.
use Rattle.records.proofs.FieldLists.{filled}
use Rattle.records.proofs.record.write.Goals as goal

pub returns : goal.returns
returns g c =
    let l = g.R.Record.layout in
    let full = filled c.args.out.now l.kind l.fields (l.held_of c.args.value) c.requires in
    cc (full, g.met.R.Record.kind_is)
