-- `listing::portions::put_rows` meets its contract. The loop's invariant: the lines of the first k rows are put, each no longer than a line's room. The measure is how many rows are left. Assumes nothing.
use Prim.Native.Nat.{◌+◌, ◌-◌, ◌*◌, ◌≤◌}
use Rattle.listing.specs.inner.Putting.{Put}
use Rattle.listing.specs.inner.Portions.{room_lines, line_room}
use Rattle.listing.proofs.portions.put_rows.Given as goal

abbrev pub invariant-loop-k : goal.invariant-loop-k
invariant-loop-k l = (l.k ≤ l.count) × (l.next ≤ l.at + l.k * line_room) × Put (room_lines l.done l.room l.k) l.at l.initial.out l.next l.out

abbrev pub decreases-loop-k : goal.decreases-loop-k
decreases-loop-k l = l.count - l.k
