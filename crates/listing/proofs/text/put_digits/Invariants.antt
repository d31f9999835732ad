-- `listing::text::put_digits` meets its contract. The loop's invariant: the digits behind those that are left are put. The measure is how many are left. Assumes nothing.
use mathlib.Core.Path.{◌≡◌}
use lib.ListN.{length}
use Rattle.listing.proofs.DigitLaws.{Left}
use Rattle.listing.proofs.text.put_digits.Given as goal

abbrev pub invariant-loop-left : goal.invariant-loop-left
invariant-loop-left l = (length l.out ≡ length l.initial.out) × Left l.base l.count l.n l.at l.initial.out l.left l.rest l.out

abbrev pub decreases-loop-left : goal.decreases-loop-left
decreases-loop-left l = l.left
