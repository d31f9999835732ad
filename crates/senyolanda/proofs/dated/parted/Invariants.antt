-- `senyolanda::dated::parted` meets its contract: the times and amounts of the flows before the one in hand lie in their places. Assumes nothing.
use mathlib.Core.Path.{◌≡◌}
use Prim.Native.Nat.{ℕ, ◌<◌}
use lib.ListN.{length, get_or}
use lib.Ieee.{nan}
use Rattle.senyolanda.proofs.DatedAmounts.{time_at, amount_at}
use Rattle.senyolanda.proofs.dated.parted.Given as goal

abbrev pub invariant-loop-i : goal.invariant-loop-i
invariant-loop-i l = record {
  room_for_times : length l.times ≡ 1201;
  room_for_amounts : length l.amounts ≡ 1201;
  times : (k : ℕ) → k < l.i → get_or l.times k nan ≡ time_at l.flows k;
  amounts : (k : ℕ) → k < l.i → get_or l.amounts k nan ≡ amount_at l.flows k;
}
