-- `records::fields::put_float` meets its contract. Assumes nothing.
use Rattle.std.proofs.Common.{ap, ◌∙◌}
use Rattle.std.specs.Int.{to_le_bytes, w64}
use Rattle.records.specs.Bytes.{float_bytes}
use Rattle.records.proofs.Bytes.{put_bytes}
use Rattle.records.proofs.fields.put_float.Goals as goal

pub returns : goal.returns
unfolding float_bytes
returns c =
    put_bytes 8 c.args.at _ c.args.out.now c.requires (c.copy_from_slice.ensures.after ∙ c.to_le_bytes.ensures ∙ ap (to_le_bytes w64) c.pattern_of.ensures)
