-- "A finite float counts as so many times 2^-1074": the size of a value in units of its format's smallest, by which exact sums are said. Definitions only. Assumes nothing.
use Rattle.std.specs.Prelude.{ℕ, ◌+◌, ◌-◌, ◌*◌, ◌/◌, ◌^◌, Float}
use Rattle.std.specs.Float.{nan, inf, fin, Format, binary64}
use Rattle.std.specs.Float.Ieee.{low, up, down}

-- the size of a finite value in units of 2 ^ -low; a NaN and an infinity have none, and count 0
unfoldable pub count : Format → Float → ℕ
count f nan = 0
count f (inf s) = 0
count f (fin s m e) = m * up e * 2 ^ low f / down e

-- a binary64 in units of 2 ^ -1074
abbrev pub units : Float → ℕ
units = count binary64

-- how far apart two counts are
abbrev pub miss : ℕ → ℕ → ℕ
miss a b = (a - b) + (b - a)
