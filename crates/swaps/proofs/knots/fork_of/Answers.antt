-- `swaps::knots::fork_of` meets its contract. Assumes nothing.
use Rattle.swaps.proofs.knots.fork_of.Goals as goal

pub returns : goal.returns
returns c = rw (c.middle-4.ensures, c.middle-3.ensures, c.middle-2.ensures, c.middle.ensures, c.middle-b.ensures, c.middle-a.ensures, c.middle-m.ensures)
