-- A sum that is carried on over a block of the flows: its terms are the flows' from the block's start on. Assumes nothing.
use Rattle.std.proofs.Common.{◌≡◌, ℕ, ◌+◌, ◌<◌, List, length, ◌∙◌}
use lib.Ieee.{Float, binary64, neg, add, mul}
use Rattle.elementary.specs.Exp.{exp}
use Rattle.curves.specs.Segments.{knot}
use Rattle.spread_analytics.specs.Curves.{rate_of}
use Rattle.spread_analytics.specs.Spread.{factor_of}
use Rattle.spread_analytics.proofs.Blocks.{Block}

module _ (times amounts tenors rates factors : List Float) (s : Float) (at : ℕ) (block due : List Float) (b : Block times amounts at block due)
    (g : (i : ℕ) → i < length block → knot factors i ≡ exp (mul binary64 (neg (add binary64 (rate_of tenors rates (knot block i)) s)) (knot block i))) where
  module _ (i : ℕ) (h : i < length block) where
    factor : knot factors i ≡ factor_of times amounts tenors rates s (at + i)
    unfolding factor_of
    factor = g i h ∙ rw (b.time_at i h)

    pub worth_term : mul binary64 (knot due i) (knot factors i) ≡ mul binary64 (knot amounts (at + i)) (factor_of times amounts tenors rates s (at + i))
    worth_term = rw (b.amount_at i h, factor)

    pub timed_term : mul binary64 (mul binary64 (knot block i) (knot due i)) (knot factors i)
        ≡ mul binary64 (mul binary64 (knot times (at + i)) (knot amounts (at + i))) (factor_of times amounts tenors rates s (at + i))
    timed_term = rw (b.time_at i h, b.amount_at i h, factor)

    pub squared_term : mul binary64 (mul binary64 (mul binary64 (knot block i) (knot block i)) (knot due i)) (knot factors i)
        ≡ mul binary64 (mul binary64 (mul binary64 (knot times (at + i)) (knot times (at + i))) (knot amounts (at + i))) (factor_of times amounts tenors rates s (at + i))
    squared_term = rw (b.time_at i h, b.amount_at i h, factor)
