-- Squares of squares. Definitions only. Assumes nothing.
use Rattle.std.specs.Prelude.{ℕ, zero, suc, Float}
use Rattle.std.specs.Float.{binary64}
use Rattle.std.specs.Float.Ieee.{mul}

-- base squared j times over
unfoldable pub squared : ℕ → Float → Float
squared zero base = base
squared (suc j) base = squared j (mul binary64 base base)
