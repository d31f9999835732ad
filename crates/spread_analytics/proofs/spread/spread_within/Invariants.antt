-- `spread_analytics::spread::spread_within` meets its contract: what the search is still to give is what it gives from the ends in hand, whose lower error is kept. Assumes nothing.
use mathlib.Core.Path.{◌≡◌}
use mathlib.Core.List.{List}
use Prim.Native.Nat.{ℕ, ◌-◌}
use lib.ListN.{length}
use lib.Ieee.{Float}
use Rattle.numbers.specs.Literals.{two_thousand, minus_five_hundred}
use Rattle.curves.specs.Segments.{knot}
use Rattle.spread_analytics.specs.Curves.{rate_of}
use Rattle.spread_analytics.specs.Spread.{error_at, spread_within}
use Rattle.curves.proofs.Filling.{Holds}
use Rattle.spread_analytics.proofs.spread.spread_within.Given as goal

abbrev pub invariant-loop-halving : goal.invariant-loop-halving
invariant-loop-halving l = (tenors rates : List Float) → Holds l.kept (λ (j : ℕ). rate_of tenors rates (knot l.times j)) (length l.times)
    → l.low ≡ error_at l.times l.amounts tenors rates l.market minus_five_hundred
    → (l.below ≡ error_at l.times l.amounts tenors rates l.market l.lo)
    × (spread_within l.times l.amounts tenors rates l.market 100 minus_five_hundred two_thousand ≡ spread_within l.times l.amounts tenors rates l.market (100 - l._halving) l.lo l.hi)
