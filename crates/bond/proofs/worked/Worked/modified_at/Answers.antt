-- `bond::worked::Worked::modified_at` meets its contract. Assumes nothing.
use Rattle.bond.specs.Durations.{modified_of}
use Rattle.bond.proofs.worked.Worked.modified_at.Goals as goal

pub returns : goal.returns
unfolding modified_of
returns c = rw (c.macaulay_at.ensures, c.period_rate.ensures)
