-- "The desk speaks spreads in basis points and rates as decimals": the one step from points to a decimal. Definitions only. Assumes nothing.
use Rattle.std.specs.Prelude.{Float}
use Rattle.std.specs.Float.{binary64}
use Rattle.std.specs.Float.Ieee.{div}
use Rattle.numbers.specs.Literals.{ten_thousand}

-- so many points, as a decimal rate
unfoldable pub as_decimal : Float → Float
as_decimal points = div binary64 points ten_thousand
