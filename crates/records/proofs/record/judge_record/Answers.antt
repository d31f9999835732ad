-- `records::record::judge_record` meets its contract. Assumes nothing.
use Rattle.std.proofs.Common.{◌≡◌, true, false}
use Rattle.records.proofs.Judged.{is_bad, bad_line, good_line}
use Rattle.records.proofs.record.judge_record.Goals as goal

pub returns-then-bad_record : goal.returns-then-bad_record
returns-then-bad_record g c =
    let bad : is_bad g.R.Record.layout c.args.bytes.now ≡ true = cc (g.met.R.Record.kind_is, g.met.R.Record.size_is) in
    bad_line c.refuse.ensures bad

pub returns : goal.returns
returns g c =
    let good : is_bad g.R.Record.layout c.args.bytes.now ≡ false = cc (g.met.R.Record.kind_is, g.met.R.Record.size_is) in
    good_line good
