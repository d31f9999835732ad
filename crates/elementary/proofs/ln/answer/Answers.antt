-- `elementary::ln::answer` meets its contract. Assumes nothing.
use Rattle.elementary.specs.Ln.{ln_of}
use Rattle.elementary.proofs.ln.answer.Goals as goal

pub returns : goal.returns
unfolding ln_of
returns c = rw c.series.ensures
