-- Raising to zero and lowering to a bound, by document 01's sentences. Definitions only. Assumes nothing.
use Rattle.std.specs.Prelude.{cond, from_bits, Float}
use Rattle.std.specs.Float.{binary64}
use Rattle.std.specs.Float.Ieee.{lt}

-- +0
abbrev pub plus_zero : Float
plus_zero = from_bits binary64 0

-- "Raising x to 0 gives x if x > 0, else +0, so NaN gives +0."
abbrev pub raised : Float → Float
raised x = cond (lt plus_zero x) x plus_zero

-- "Lowering p to b gives p if p < b, else b."
abbrev pub lowered : Float → Float → Float
lowered p b = cond (lt p b) p b
