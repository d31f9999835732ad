-- `listing::text::put_digits` meets its contract. The loop's invariant: the digits behind those that are left are put. The measure is how many are left. Assumes nothing.
use mathlib.Core.Path.{refl}
use native.Mathlib.Nat.{mod-lt}
use native.Mathlib.Omega.{arith}
use lib.ListN.{length-set}
use Rattle.listing.proofs.DigitLaws.{all_left, turn, none_left}
use Rattle.listing.proofs.text.put_digits.Goals as goal

pub loop-left-init : goal.loop-left-init
loop-left-init c = (refl, all_left _ _ _ _ _)

pub digit-requires : goal.digit-requires
digit-requires c = omega (arith, mod-lt c.loop-left.rest c.requires.0)

pub loop-left-preserved : goal.loop-left-preserved
loop-left-preserved c = (simp length-set c.loop-left.invariant.0, turn _ _ _ _ _ _ _ _ _ c.loop-left-test.true c.digit.ensures c.loop-left.invariant.1)

pub shape_of-out : goal.shape_of-out
shape_of-out c = c.loop-left.invariant.0

pub returns : goal.returns
returns c = none_left _ _ _ _ _ _ _ _ c.loop-left-test.false c.loop-left.invariant.1
