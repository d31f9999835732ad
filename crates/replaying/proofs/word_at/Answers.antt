-- `replaying::word_at` meets its contract. Assumes nothing.
use Rattle.std.proofs.Common.{arith}
use Rattle.replaying.proofs.Words.{word_is}
use Rattle.replaying.proofs.word_at.Goals as goal

pub returns-in-Some : goal.returns-in-Some
returns-in-Some c = word_is _ _ c.args.k _ _ c.as_chunks.ensures.front (omega (arith, c.in-Some.ensures.lookup)) c.in-Some.ensures.lookup.1 c.from_le_bytes.ensures
