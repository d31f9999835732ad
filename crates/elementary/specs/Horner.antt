-- Horner's rule from the top, over any coefficients. Definitions only. Assumes nothing.
use Rattle.std.specs.Prelude.{ℕ, zero, suc, Float}
use Rattle.std.specs.Float.{binary64}
use Rattle.std.specs.Float.Ieee.{add, mul}

-- a j + x·(a (j+1) + x·( .. a (j+m))), one rounding for each operation
unfoldable pub horner : (ℕ → Float) → Float → ℕ → ℕ → Float
horner a x j zero = a j
horner a x j (suc m) = add binary64 (mul binary64 (horner a x (suc j) m) x) (a j)
