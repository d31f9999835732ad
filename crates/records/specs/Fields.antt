-- The fields of a record, and what follows from a list of them: how many bytes they are, the bytes of their values, and the values that bytes hold. Definitions only. Assumes nothing.
use Rattle.std.specs.Prelude.{ℕ, ◌+◌, Bool, false, ◌||◌, List, [], ◌∷◌, ◌++◌, get_or, Float}
use Rattle.refusals.specs.Table.{bad_code}
use Rattle.records.specs.Bytes.{pair_at, whole_at, float_at, pair_bytes, whole_bytes, float_bytes}

-- a field: a code of one byte, from 0 to the highest; a whole number of one byte, of two, or of four (a u32); an f64
pub data Field : Type 0 where
  code : ℕ → Field
  byte : Field
  pair : Field
  whole : Field
  float : Field

abbrev pub size_of : Field → ℕ
size_of (code highest) = 1
size_of byte = 1
size_of pair = 2
size_of whole = 4
size_of float = 8

-- how many bytes the fields are
abbrev pub size_of_all : List Field → ℕ
size_of_all [] = 0
size_of_all (f ∷ fs) = size_of f + size_of_all fs

-- what a field holds, and what all of them do
abbrev pub Held : Field → Type 0
Held (code highest) = ℕ
Held byte = ℕ
Held pair = ℕ
Held whole = ℕ
Held float = Float

abbrev pub HeldByAll : List Field → Type 0
HeldByAll [] = Unit
HeldByAll (f ∷ fs) = Held f × HeldByAll fs

-- its bytes; a code, or a number of one byte, is the byte that it is
abbrev pub bytes_in : (f : Field) → Held f → List ℕ
bytes_in (code highest) n = n ∷ []
bytes_in byte n = n ∷ []
bytes_in pair n = pair_bytes n
bytes_in whole n = whole_bytes n
bytes_in float x = float_bytes x

abbrev pub bytes_in_all : (fs : List Field) → HeldByAll fs → List ℕ
bytes_in_all [] held = []
bytes_in_all (f ∷ fs) held = bytes_in f held.0 ++ bytes_in_all fs held.1

-- what bytes hold in a field from a place on, and in fields one behind the other
abbrev pub held_at : (f : Field) → ℕ → List ℕ → Held f
held_at (code highest) at bytes = get_or bytes at 0
held_at byte at bytes = get_or bytes at 0
held_at pair at bytes = pair_at at bytes
held_at whole at bytes = whole_at at bytes
held_at float at bytes = float_at at bytes

abbrev pub held_from : (fs : List Field) → ℕ → List ℕ → HeldByAll fs
held_from [] at bytes = tt
held_from (f ∷ fs) at bytes = (held_at f at bytes, held_from fs (at + size_of f) bytes)

-- whether a code is outside its set
abbrev pub any_bad_code : (fs : List Field) → HeldByAll fs → Bool
any_bad_code [] held = false
any_bad_code (code highest ∷ fs) held = bad_code highest held.0 || any_bad_code fs held.1
any_bad_code (byte ∷ fs) held = any_bad_code fs held.1
any_bad_code (pair ∷ fs) held = any_bad_code fs held.1
any_bad_code (whole ∷ fs) held = any_bad_code fs held.1
any_bad_code (float ∷ fs) held = any_bad_code fs held.1
