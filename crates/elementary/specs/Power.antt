-- Powers with any exponent, by document 01's steps. Definitions only. Assumes nothing.
use Rattle.std.specs.Prelude.{ℕ, ◌*◌, ◌/◌, ◌%◌, Bool, true, false, ◌&&◌, eqb, leb, Float}
use Rattle.std.specs.Float.{nan, inf, fin, binary64}
use Rattle.std.specs.Float.Ieee.{up, down, mul, eq}
use Rattle.numbers.specs.Literals.{one}
use Rattle.elementary.specs.WholePower.{whole_power, negative_power}
use Rattle.elementary.specs.Exp.{exp}
use Rattle.elementary.specs.Ln.{ln}

-- "Whole exponents up to 1,200 in size"
unfoldable pub is_whole : Float → Bool
is_whole nan = false
is_whole (inf s) = false
is_whole (fin s m e) = eqb (m * up e % down e) 0 && leb (m * up e / down e) 1200

-- the size of a whole exponent, and its power
unfoldable pub size_of : Float → ℕ
size_of nan = 0
size_of (inf s) = 0
size_of (fin s m e) = m * up e / down e

unfoldable pub by_sign : Float → Float → Float
by_sign x nan = nan
by_sign x (inf s) = nan
by_sign x (fin true m e) = negative_power x (size_of (fin true m e))
by_sign x (fin false m e) = whole_power x (size_of (fin false m e))

-- "Others: base 1 gives 1, else exp(y·ln x)."
unfoldable pub by_ln : Bool → Float → Float → Float
by_ln true x y = one
by_ln false x y = exp (mul binary64 y (ln x))

unfoldable pub power_by : Bool → Float → Float → Float
power_by true x y = by_sign x y
power_by false x y = by_ln (eq x one) x y

unfoldable pub power : Float → Float → Float
power x y = power_by (is_whole y) x y
