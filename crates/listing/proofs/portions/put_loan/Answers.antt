-- `listing::portions::put_loan` meets its contract: the header, the rows and the footer are put one behind the other. Assumes nothing.
use Rattle.listing.proofs.Whole.{starts, footer_fits, loan_listed}
use Rattle.listing.proofs.portions.put_loan.Goals as goal

pub put_all-all-requires : goal.put_all-all-requires
put_all-all-requires c = starts _ _ c.args.out.now _ c.requires.0 c.requires.1 c.put_text-header.ensures

pub put_footer-requires : goal.put_footer-requires
put_footer-requires c = footer_fits _ _ c.args.out.now _ _ _ c.requires.0 c.requires.1 c.put_text-header.ensures c.put_all-all.ensures.lists _ _

pub returns : goal.returns
returns c = loan_listed _ _ _ _ _ _ _ _ c.put_text-header.ensures c.put_all-all.ensures.lists c.put_all-all.ensures.left_value c.put_footer.ensures
