-- `records::fields::put_whole` meets its contract. Assumes nothing.
use Rattle.std.proofs.Common.{◌∙◌}
use Rattle.records.specs.Bytes.{whole_bytes}
use Rattle.records.proofs.Bytes.{put_bytes}
use Rattle.records.proofs.fields.put_whole.Goals as goal

pub returns : goal.returns
unfolding whole_bytes
returns c = put_bytes 4 c.args.at c.args.n c.args.out.now c.requires (c.copy_from_slice.ensures.after ∙ c.to_le_bytes.ensures)
