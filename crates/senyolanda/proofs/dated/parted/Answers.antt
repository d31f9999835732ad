-- `senyolanda::dated::parted` meets its contract: the times and amounts of the flows before the one in hand lie in their places. Assumes nothing.
use mathlib.Core.Path.{◌≡◌, refl, ◌∙◌}
use native.Mathlib.Omega.{arith}
use lib.ListN.{length, length-set}
use lib.Ieee.{nan}
use Rattle.steps.proofs.Places.{filled_more}
use Rattle.senyolanda.proofs.DatedAmounts.{time_at, amount_at, with_times, with_amounts}
use Rattle.senyolanda.proofs.dated.parted.Goals as goal

pub loop-i-preserved : goal.loop-i-preserved
loop-i-preserved c =
    let head = c.loop-i in
    let filled = head.invariant in
    let xs = c.args.flows.now in
    record {
      room_for_times = length-set head.times head.i _ ∙ filled.room_for_times;
      room_for_amounts = length-set head.amounts head.i _ ∙ filled.room_for_amounts;
      times = filled_more head.times head.i _ nan (time_at xs) (omega arith) refl filled.times;
      amounts = filled_more head.amounts head.i _ nan (amount_at xs) (omega arith) refl filled.amounts;
    }

pub returns-clause-times_after : goal.returns-clause-times_after
returns-clause-times_after c = with_times _ _ _ (omega arith) (omega arith) (λ k h. c.loop-i.invariant.times k (omega arith))

pub returns-clause-amounts_after : goal.returns-clause-amounts_after
returns-clause-amounts_after c = with_amounts _ _ _ (omega arith) (omega arith) (λ k h. c.loop-i.invariant.amounts k (omega arith))
