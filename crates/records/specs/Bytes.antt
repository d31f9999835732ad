-- Numbers as little-endian bytes. Definitions only. Assumes nothing.
use Rattle.std.specs.Prelude.{ℕ, zero, suc, ◌+◌, ◌*◌, ◌/◌, ◌%◌, List, [], ◌∷◌, take, drop, Float}
use Rattle.std.specs.Float.{binary64}
use Rattle.std.specs.Float.Ieee.{of_bits, to_bits}

-- the number that bytes stand for, the least first
unfoldable pub value_of : List ℕ → ℕ
value_of [] = 0
value_of (b ∷ bs) = b + 256 * value_of bs

-- the lowest k bytes of a number, the least first
unfoldable pub bytes_of : ℕ → ℕ → List ℕ
bytes_of zero n = []
bytes_of (suc k) n = n % 256 ∷ bytes_of k (n / 256)

-- so many bytes of a record, from a place
abbrev pub field : ℕ → ℕ → List ℕ → List ℕ
field at size bytes = take size (drop at bytes)

-- a whole number of 2 bytes, a u32 of 4, an f64 as the 8 bytes of its pattern; every NaN is written 7ff8000000000000, which is what `to_bits` gives for it
unfoldable pub pair_at : ℕ → List ℕ → ℕ
unfolding value_of
pair_at at bytes = value_of (field at 2 bytes)

unfoldable pub whole_at : ℕ → List ℕ → ℕ
unfolding value_of
whole_at at bytes = value_of (field at 4 bytes)

unfoldable pub float_at : ℕ → List ℕ → Float
unfolding value_of
float_at at bytes = of_bits binary64 (value_of (field at 8 bytes))

unfoldable pub pair_bytes : ℕ → List ℕ
unfolding bytes_of
pair_bytes n = bytes_of 2 n

unfoldable pub whole_bytes : ℕ → List ℕ
unfolding bytes_of
whole_bytes n = bytes_of 4 n

unfoldable pub float_bytes : Float → List ℕ
unfolding bytes_of
float_bytes x = bytes_of 8 (to_bits binary64 x)
