-- `swaps::valuation::duration_of` meets its contract: 0 where the fixed leg is worth nothing. Assumes nothing.
use Rattle.swaps.proofs.valuation.duration_of.Goals as goal

pub returns-then-legs : goal.returns-then-legs
returns-then-legs c = rw c.if-legs.true

pub returns : goal.returns
returns c = rw (c.per_year.ensures, c.zero_rate_of.ensures, c.end.ensures, c.if-legs.false)
