-- `listing::portions::put_all` meets its contract. The loop's invariant: some of the rows due are listed, and what is left can be listed. The measure is how many are left. Assumes nothing.
use lib.ListN.{length}
use Rattle.mortgage.specs.Level.{due}
use Rattle.listing.specs.inner.Portions.{Listable}
use Rattle.listing.proofs.PortionLaws.{Underway}
use Rattle.listing.proofs.portions.put_all.Given as goal

abbrev pub invariant-loop-listed : goal.invariant-loop-listed
invariant-loop-listed l = Listable l.listed (length l.out) × Underway l.initial.listed l.initial.out l.listed l.out

abbrev pub decreases-loop-listed : goal.decreases-loop-listed
decreases-loop-listed l = due l.listed.loan
