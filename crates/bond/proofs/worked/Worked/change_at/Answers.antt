-- `bond::worked::Worked::change_at` meets its contract. Assumes nothing.
use Rattle.bond.specs.Durations.{change_of}
use Rattle.bond.proofs.worked.Worked.change_at.Goals as goal

pub returns : goal.returns
unfolding change_of
returns c = rw (c.modified_at.ensures, c.convexity_at.ensures)
