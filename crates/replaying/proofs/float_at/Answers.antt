-- `replaying::float_at` meets its contract. Assumes nothing.
use Rattle.replaying.proofs.float_at.Goals as goal

pub returns : goal.returns
returns c = rw (c.float_of.ensures, c.word_at.ensures)
