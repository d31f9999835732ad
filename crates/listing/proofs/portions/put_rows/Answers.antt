-- `listing::portions::put_rows` meets its contract. The loop's invariant: the lines of the first k rows are put, each no longer than a line's room. The measure is how many rows are left. Assumes nothing.
use mathlib.Core.Path.{◌≡◌}
use native.Mathlib.Omega.{arith}
use Rattle.listing.proofs.Putting.{same_room}
use Rattle.listing.proofs.Lengths.{length_row}
use Rattle.listing.proofs.RoomLaws.{no_row, next_row}
use Rattle.listing.proofs.portions.put_rows.Goals as goal

pub loop-k-init : goal.loop-k-init
loop-k-init c = (omega arith, omega arith, no_row _ _ _ _)

pub put_row-next-requires : goal.put_row-next-requires
put_row-next-requires c = omega (arith, length_row c.row_at-row.result, same_room c.loop-k.invariant.2)

pub loop-k-preserved : goal.loop-k-preserved
loop-k-preserved c = (omega arith, omega (arith, c.put_row-next.ensures.place, length_row c.row_at-row.result), next_row _ _ _ c.row_at-row.ensures c.loop-k.invariant.2 c.put_row-next.ensures)

pub shape_of-out : goal.shape_of-out
shape_of-out c = same_room c.loop-k.invariant.2

pub returns : goal.returns
returns c =
    let i = c.loop-k.invariant in
    let e : c.loop-k.k ≡ c.args.count = omega arith in
    rw e at i.2
