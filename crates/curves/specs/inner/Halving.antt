-- The two rules by which a segment serves, what a turn of halving steps to, and a time that is past the first segments. Definitions only. Assumes nothing.
use Rattle.std.specs.Prelude.{ℕ, suc, ◌+◌, ◌<◌, ◌≡◌, Bool, false, cond, List, Float}
use Rattle.std.specs.Float.Ieee.{le, lt}
use Rattle.curves.specs.Segments.{knot, segment_ending, segment_starting}

-- the two rules: at an inner knot the segment that ends there serves, or the one that starts there
pub data Rule : Type 0 where
  ending : Rule
  starting : Rule

unfoldable pub segment_by : Rule → List Float → Float → ℕ
segment_by ending = segment_ending
segment_by starting = segment_starting

-- the test of a knot: whether the segment that ends there, or one before it, serves t
unfoldable pub passes : Rule → Float → Float → Bool
passes ending = le
passes starting = lt

-- where half the knots are stepped over: not where the knot so far on passes
abbrev pub stepped_over : (Float → Bool) → List Float → ℕ → ℕ → ℕ
stepped_over test times half base = cond (test (knot times (base + half))) base (base + half)

-- a time is past the first i segments: none of their ends passes
abbrev pub Past : Rule → List Float → Float → ℕ → Type 0
Past rule times t i = (j : ℕ) → j < i → passes rule t (knot times (suc j)) ≡ false
