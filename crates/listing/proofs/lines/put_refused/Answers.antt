-- `listing::lines::put_refused` meets its contract: its line is one of two numbers. Assumes nothing.
use mathlib.Core.Path.{sym}
use Rattle.listing.specs.Listing.{refused_line}
use Rattle.listing.proofs.lines.put_refused.Goals as goal

pub put_numbers-requires : goal.put_numbers-requires
unfolding refused_line
put_numbers-requires c = rw c.number.ensures c.requires

pub returns : goal.returns
unfolding refused_line
returns c = rw (sym c.number.ensures) c.put_numbers.ensures
