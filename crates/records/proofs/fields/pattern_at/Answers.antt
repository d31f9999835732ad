-- `records::fields::pattern_at` meets its contract. Assumes nothing.
use Rattle.std.proofs.Common.{◌∙◌}
use Rattle.records.proofs.Bytes.{read_bytes}
use Rattle.records.proofs.fields.pattern_at.Goals as goal

pub returns : goal.returns
returns c = c.from_le_bytes.ensures ∙ read_bytes 7 c.args.at c.args.bytes.now c.requires c.bytes_at.ensures
