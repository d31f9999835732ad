-- `listing::text::put_text` meets its contract. The loop's invariant: the bytes before `i` are put. The measure is what is left of the text. Assumes nothing.
use Prim.Native.Nat.{◌≤◌, ◌-◌, ◌+◌}
use lib.ListN.{length, take}
use Rattle.listing.specs.inner.Putting.{Put}
use Rattle.listing.proofs.text.put_text.Given as goal

abbrev pub invariant-loop-i : goal.invariant-loop-i
invariant-loop-i l = (l.i ≤ length l.text) × Put (take l.i l.text) l.at l.initial.out (l.at + l.i) l.out

abbrev pub decreases-loop-i : goal.decreases-loop-i
decreases-loop-i l = length l.text - l.i
