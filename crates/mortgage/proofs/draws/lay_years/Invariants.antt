-- `mortgage::draws::lay_years` meets its contract: after each turn the room begins with the rows so far, up to a year's end or to the last that is asked for. Assumes nothing.
use Prim.Native.Nat.{◌-◌}
use Rattle.mortgage.proofs.YearByYear.{Underway}
use Rattle.mortgage.proofs.draws.lay_years.Given as goal

abbrev pub invariant-loop-k : goal.invariant-loop-k
invariant-loop-k l = Underway l.adjustment l.index l.count l.initial.l l.initial.room l.k l.l l.room l.coming

abbrev pub decreases-loop-k : goal.decreases-loop-k
decreases-loop-k l = l.count - l.k
