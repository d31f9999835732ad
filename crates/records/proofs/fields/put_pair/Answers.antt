-- `records::fields::put_pair` meets its contract. Assumes nothing.
use Rattle.std.proofs.Common.{◌∙◌}
use Rattle.records.specs.Bytes.{pair_bytes}
use Rattle.records.proofs.Bytes.{put_bytes}
use Rattle.records.proofs.fields.put_pair.Goals as goal

pub returns : goal.returns
unfolding pair_bytes
returns c = put_bytes 2 c.args.at c.args.n c.args.out.now c.requires (c.copy_from_slice.ensures.after ∙ c.to_le_bytes.ensures)
