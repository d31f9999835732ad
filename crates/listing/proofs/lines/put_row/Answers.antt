-- `listing::lines::put_row` meets its contract: its parts are put one behind the other. Assumes nothing.
use native.Mathlib.Omega.{arith}
use Rattle.listing.specs.Listing.{row_line}
use Rattle.listing.proofs.Putting.{then}
use Rattle.listing.proofs.Lengths.{RowLengths, row_lengths}
use Rattle.listing.proofs.lines.put_row.Goals as goal

pub put_decimal-month-requires : goal.put_decimal-month-requires
put_decimal-month-requires c = omega (arith, row_lengths c.args.row)

pub put_spaced-payment-requires : goal.put_spaced-payment-requires
put_spaced-payment-requires c =
    let lengths : RowLengths c.args.row = row_lengths c.args.row in
    omega (arith, lengths)

pub put_spaced-principal-requires : goal.put_spaced-principal-requires
put_spaced-principal-requires c =
    let lengths : RowLengths c.args.row = row_lengths c.args.row in
    omega (arith, lengths)

pub put_spaced-interest-requires : goal.put_spaced-interest-requires
put_spaced-interest-requires c =
    let lengths : RowLengths c.args.row = row_lengths c.args.row in
    let later : RowLengths c.args.row = lengths in
    omega (arith, later)

pub put_spaced-balance-requires : goal.put_spaced-balance-requires
put_spaced-balance-requires c =
    let lengths : RowLengths c.args.row = row_lengths c.args.row in
    let later : RowLengths c.args.row = lengths in
    omega (arith, later)

pub put_text-requires : goal.put_text-requires
put_text-requires c =
    let lengths : RowLengths c.args.row = row_lengths c.args.row in
    let later : RowLengths c.args.row = lengths in
    omega (arith, later, c)

pub returns : goal.returns
unfolding row_line
returns c =
    let paid = then (then c.put_decimal-month.ensures c.put_spaced-payment.ensures) c.put_spaced-principal.ensures in
    then (then (then paid c.put_spaced-interest.ensures) c.put_spaced-balance.ensures) c.put_text.ensures
