-- `spread_analytics::spread::worth_of` meets its contract: the blocks before are added. Assumes nothing.
use Rattle.std.proofs.Common.{◌≡◌, ℕ}
use lib.Ieee.{binary64, mul}
use Rattle.numbers.specs.Sums.{added_up}
use Rattle.curves.specs.Segments.{knot}
use Rattle.spread_analytics.specs.Spread.{factor_of}
use Rattle.spread_analytics.proofs.Blocks.{Left}
use Rattle.spread_analytics.proofs.spread.worth_of.Given as goal

abbrev pub invariant-loop-block : goal.invariant-loop-block
invariant-loop-block l =
    (at : ℕ) × Left l.times l.amounts at l.block-iterator
    × (l.worth ≡ added_up (λ (i : ℕ). mul binary64 (knot l.amounts i) (factor_of l.times l.amounts l.tenors l.rates l.s.0 i)) at)
