-- "A NaN is always written as 7ff8000000000000": what writing a record anew makes of its bytes. Definitions only. Assumes nothing.
use Rattle.std.specs.Prelude.{ℕ, ◌<◌, cond, List, [], ◌∷◌, ◌++◌, take, drop, get_or}
use Rattle.std.specs.Float.{binary64}
use Rattle.std.specs.Float.Ieee.{of_bits, is_nan}
use Rattle.records.specs.Bytes.{value_of, bytes_of}
use Rattle.records.specs.Fields.{Field, code, byte, pair, whole, float, size_of}

abbrev pub AreBytes : List ℕ → Type 0
AreBytes bytes = (i : ℕ) → get_or bytes i 0 < 256

-- a float's bytes that stand for a NaN give way to the one NaN's, and all others stay
unfoldable pub one_nan_in : Field → List ℕ → List ℕ
one_nan_in float bytes = cond (is_nan (of_bits binary64 (value_of bytes))) (bytes_of 8 0x7ff8_0000_0000_0000) bytes
one_nan_in (code highest) bytes = bytes
one_nan_in byte bytes = bytes
one_nan_in pair bytes = bytes
one_nan_in whole bytes = bytes

unfoldable pub one_nan : List Field → List ℕ → List ℕ
one_nan [] bytes = bytes
one_nan (f ∷ fs) bytes = one_nan_in f (take (size_of f) bytes) ++ one_nan fs (drop (size_of f) bytes)

-- in a record: its byte of kind, and its fields
abbrev pub one_nan_after_kind : List Field → List ℕ → List ℕ
one_nan_after_kind fields bytes = take 1 bytes ++ one_nan fields (drop 1 bytes)
