-- `spread_analytics::dated::gathered` meets its contract: after i turns the first i flows are in both rooms. While its fields are written, a struct with a ghost field stands as a tuple of them. Assumes nothing.
use Rattle.std.proofs.Common.{◌≡◌, length, take}
use Rattle.spread_analytics.specs.Dated.{times_of, amounts_of}
use Rattle.spread_analytics.proofs.dated.gathered.Given as goal

abbrev pub invariant-loop-i : goal.invariant-loop-i
invariant-loop-i l = record {
  times_room : length l.lists.0 ≡ 1200;
  amounts_room : length l.lists.1.0 ≡ 1200;
  all : l.lists.1.1.0 ≡ length l.flows;
  times : take l.i l.lists.0 ≡ times_of (take l.i l.flows);
  amounts : take l.i l.lists.1.0 ≡ amounts_of (take l.i l.flows);
}
