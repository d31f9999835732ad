-- Sums of a column: rounded at each step as the machine adds, and exact in units. Definitions only. Assumes nothing.
use Rattle.std.specs.Prelude.{ℕ, zero, suc, ◌+◌, Float}
use Rattle.std.specs.Float.{binary64}
use Rattle.std.specs.Float.Ieee.{add}
use Rattle.numbers.specs.Clamps.{plus_zero}
use Rattle.numbers.specs.Units.{units}

-- the first k terms added left to right, from +0
unfoldable pub added_up : (ℕ → Float) → ℕ → Float
added_up f zero = plus_zero
added_up f (suc k) = add binary64 (added_up f k) (f k)

-- the first k terms added exactly, in units of 2 ^ -1074
unfoldable pub exact_sum : (ℕ → Float) → ℕ → ℕ
exact_sum f zero = 0
exact_sum f (suc k) = exact_sum f k + units (f k)
