-- `listing::text::put_text` meets its contract. The loop's invariant: the bytes before `i` are put. The measure is what is left of the text. Assumes nothing.
use native.Mathlib.Nat.{add-zero}
use native.Mathlib.Omega.{arith}
use Rattle.listing.proofs.Putting.{nothing, same_room, next_byte, every_byte}
use Rattle.listing.proofs.text.put_text.Goals as goal

pub loop-i-init : goal.loop-i-init
loop-i-init c = (omega arith, rw add-zero (nothing c.args.at c.args.out.now))

pub bounds-out-at : goal.bounds-out-at
bounds-out-at c = omega (arith, same_room c.loop-i.invariant.1)

pub loop-i-preserved : goal.loop-i-preserved
loop-i-preserved c = (omega arith, next_byte _ _ _ _ _ c.loop-i-test.true c.loop-i.invariant.1)

pub shape_of-out : goal.shape_of-out
shape_of-out c = same_room c.loop-i.invariant.1

pub returns : goal.returns
returns c = every_byte _ _ _ _ _ c.loop-i-test.false c.loop-i.invariant.1
