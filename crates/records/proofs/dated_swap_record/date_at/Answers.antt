-- `records::dated_swap_record::date_at` meets its contract: each field is read at its place. Assumes nothing.
use Rattle.records.proofs.Dates.{date_read}
use Rattle.records.proofs.dated_swap_record.date_at.Goals as goal

pub returns : goal.returns
returns c = date_read c.args.at c.args.bytes.now c.pair_at.ensures
