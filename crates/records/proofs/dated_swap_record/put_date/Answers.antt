-- `records::dated_swap_record::put_date` meets its contract. Assumes nothing.
use native.Mathlib.Omega.{arith}
use lib.ListN.{length-set}
use Rattle.records.proofs.Dates.{date_put}
use Rattle.records.proofs.dated_swap_record.put_date.Goals as goal

pub bounds-out-at-2 : goal.bounds-out-at-2
bounds-out-at-2 c = simp length-set (omega arith)

pub returns : goal.returns
returns c = date_put c.args.out.now c.args.at c.args.date c.put_pair.ensures
