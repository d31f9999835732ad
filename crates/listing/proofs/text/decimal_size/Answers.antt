-- `listing::text::decimal_size` meets its contract. The loop's invariant: so many digits are counted, and at most as many are left as make ten. The measure is the rest. Assumes nothing.
use native.Mathlib.Omega.{arith}
use Rattle.listing.proofs.DigitLaws.{none_counted, one_counted, all_counted}
use Rattle.listing.proofs.text.decimal_size.Goals as goal

pub loop-rest-init : goal.loop-rest-init
loop-rest-init c = none_counted _ (omega arith)

pub loop-rest-preserved : goal.loop-rest-preserved
loop-rest-preserved c = one_counted _ _ _ c.loop-rest-test.true c.loop-rest.invariant

pub returns : goal.returns
returns c = all_counted _ _ _ c.loop-rest-test.false c.loop-rest.invariant
