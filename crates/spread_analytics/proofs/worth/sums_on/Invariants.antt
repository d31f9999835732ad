-- `spread_analytics::worth::sums_on` meets its contract: after i turns the first i terms of each sum are added to those before. Assumes nothing.
use Prim.Native.Nat.{ℕ}
use lib.ListN.{length}
use lib.Ieee.{binary64, mul}
use Rattle.curves.specs.Segments.{knot}
use Rattle.curves.proofs.Adding.{Carried}
use Rattle.spread_analytics.proofs.worth.sums_on.Given as goal

abbrev pub invariant-loop-time : goal.invariant-loop-time
invariant-loop-time l =
    Carried l.initial.sums.worth l.sums.worth (λ (j : ℕ). mul binary64 (knot l.amounts j) (knot l.factors j)) (length l.yielded)
    × Carried l.initial.sums.timed l.sums.timed (λ (j : ℕ). mul binary64 (mul binary64 (knot l.times j) (knot l.amounts j)) (knot l.factors j)) (length l.yielded)
    × Carried l.initial.sums.squared l.sums.squared (λ (j : ℕ). mul binary64 (mul binary64 (mul binary64 (knot l.times j) (knot l.times j)) (knot l.amounts j)) (knot l.factors j)) (length l.yielded)
