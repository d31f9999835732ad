-- `spread_analytics::worth::put_exponents` meets its contract: after i turns the room holds the first i exponents. Assumes nothing.
use Prim.Native.Nat.{ℕ}
use Rattle.curves.specs.Segments.{knot}
use lib.Ieee.{binary64, neg, add, mul}
use Rattle.curves.proofs.Filling.{Holds}
use Rattle.spread_analytics.proofs.worth.put_exponents.Given as goal

abbrev pub invariant-loop-i : goal.invariant-loop-i
invariant-loop-i l = Holds l.exponents (λ (j : ℕ). mul binary64 (neg (add binary64 (knot l.kept j) l.spread.0)) (knot l.times j)) l.i
