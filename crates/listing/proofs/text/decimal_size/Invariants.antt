-- `listing::text::decimal_size` meets its contract. The loop's invariant: so many digits are counted, and at most as many are left as make ten. The measure is the rest. Assumes nothing.
use Rattle.listing.proofs.DigitLaws.{Counted}
use Rattle.listing.proofs.text.decimal_size.Given as goal

abbrev pub invariant-loop-rest : goal.invariant-loop-rest
invariant-loop-rest l = Counted l.n l.rest l.size

abbrev pub decreases-loop-rest : goal.decreases-loop-rest
decreases-loop-rest l = l.rest
