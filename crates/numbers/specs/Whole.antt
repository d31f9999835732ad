-- Whole numbers of 32 bits from floats, said over the exact value m * 2 ^ e, so that no rounding of an inner step can creep in. Definitions only.
-- A NaN and anything below zero give 0, and what is too large gives 4,294,967,295. Assumes nothing.
use Rattle.std.specs.Prelude.{ℕ, ◌+◌, ◌-◌, ◌*◌, ◌/◌, min, cond, Float}
use Rattle.std.specs.Float.{nan, inf, fin}
use Rattle.std.specs.Float.Ieee.{up, down}

abbrev pub largest : ℕ
largest = 4294967295

-- the nearest whole number to a / c, halves up, and the least whole number that is not below a / c
abbrev pub nearest_to : ℕ → ℕ → ℕ
nearest_to a c = (a * 2 + c) / (c * 2)

abbrev pub not_below : ℕ → ℕ → ℕ
not_below a c = (a + (c - 1)) / c

-- "To the nearest whole number, halves away from zero; NaN and anything negative give 0."
unfoldable pub nearest_whole : Float → ℕ
nearest_whole nan = 0
nearest_whole (inf s) = cond s 0 largest
nearest_whole (fin s m e) = cond s 0 (min (nearest_to (m * up e) (down e)) largest)

-- "The ceiling; NaN or below zero gives 0, too large gives 4,294,967,295."
unfoldable pub ceiling : Float → ℕ
ceiling nan = 0
ceiling (inf s) = cond s 0 largest
ceiling (fin s m e) = cond s 0 (min (not_below (m * up e) (down e)) largest)
