-- `listing::lines::put_footer` meets its contract: its line is one of two numbers. Assumes nothing.
use Rattle.listing.specs.Listing.{footer}
use Rattle.listing.proofs.lines.put_footer.Goals as goal

pub put_numbers-requires : goal.put_numbers-requires
unfolding footer
put_numbers-requires c = c.requires

pub returns : goal.returns
unfolding footer
returns c = c.put_numbers.ensures
