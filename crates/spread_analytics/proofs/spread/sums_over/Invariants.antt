-- `spread_analytics::spread::sums_over` meets its contract: the blocks before are added, in each sum. Assumes nothing.
use Rattle.std.proofs.Common.{◌≡◌, ℕ}
use lib.Ieee.{binary64, mul}
use Rattle.numbers.specs.Sums.{added_up}
use Rattle.curves.specs.Segments.{knot}
use Rattle.spread_analytics.specs.Spread.{factor_of}
use Rattle.spread_analytics.proofs.Blocks.{Left}
use Rattle.spread_analytics.proofs.spread.sums_over.Given as goal

abbrev pub invariant-loop-block : goal.invariant-loop-block
invariant-loop-block l =
    (at : ℕ) × Left l.times l.amounts at l.block-iterator
    × (l.sums.worth ≡ added_up (λ (i : ℕ). mul binary64 (knot l.amounts i) (factor_of l.times l.amounts l.tenors l.rates l.s.0 i)) at)
    × (l.sums.timed ≡ added_up (λ (i : ℕ). mul binary64 (mul binary64 (knot l.times i) (knot l.amounts i)) (factor_of l.times l.amounts l.tenors l.rates l.s.0 i)) at)
    × (l.sums.squared ≡ added_up (λ (i : ℕ). mul binary64 (mul binary64 (mul binary64 (knot l.times i) (knot l.times i)) (knot l.amounts i)) (factor_of l.times l.amounts l.tenors l.rates l.s.0 i)) at)
