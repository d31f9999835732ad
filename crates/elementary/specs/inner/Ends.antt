-- Where exp's steps run. Definitions only. Assumes nothing.
use Rattle.std.specs.Prelude.{◌≡◌, false, Float}
use Rattle.std.specs.Float.Ieee.{lt, ne}
use Rattle.numbers.specs.Literals.{seven_hundred_nine, minus_seven_hundred_eight}

-- neither a NaN nor beyond an end
abbrev pub Inside : Float → Type 0
Inside x = (ne x x ≡ false) × (lt seven_hundred_nine x ≡ false) × (lt x minus_seven_hundred_eight ≡ false)
