-- The terms of both sums over a bond's flows: of a convexity's by squares, of a duration's by times. Definitions only. Assumes nothing.
use Rattle.std.specs.Prelude.{ℕ, Bool, cond, Float}
use Rattle.bond.specs.declared.Bond.{Bond}
use Rattle.bond.specs.Durations.{weighted_time, weighted_square}

abbrev pub weighted_by : Bond → Float → Bool → ℕ → Float
weighted_by b r squares t = cond squares (weighted_square b r t) (weighted_time b r t)
