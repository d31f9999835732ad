-- `records::fields::pair_at` meets its contract. Assumes nothing.
use Rattle.std.proofs.Common.{◌∙◌}
use Rattle.records.specs.Bytes.{pair_at}
use Rattle.records.proofs.Bytes.{read_bytes}
use Rattle.records.proofs.fields.pair_at.Goals as goal

pub returns : goal.returns
unfolding pair_at
returns c = c.from_le_bytes.ensures ∙ read_bytes 1 c.args.at c.args.bytes.now c.requires c.bytes_at.ensures
