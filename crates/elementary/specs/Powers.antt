-- Whole powers in a row. Definitions only. Assumes nothing.
use Rattle.std.specs.Prelude.{ℕ, zero, suc, List, [], ◌∷◌, Float}
use Rattle.elementary.specs.WholePower.{whole_power}

-- base to the n exponents from i on
unfoldable pub powers_from : Float → ℕ → ℕ → List Float
powers_from base i zero = []
powers_from base i (suc n) = whole_power base i ∷ powers_from base (suc i) n
