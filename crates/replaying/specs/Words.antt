-- Words of a list of bytes. Definitions only. Assumes nothing.
use Rattle.std.specs.Prelude.{ℕ, ◌+◌, ◌*◌, ◌/◌, cond, List, length, from_bits, nat_lt, Float}
use Rattle.std.specs.Float.{binary64}
use Rattle.refusals.specs.Outcome.{Outcome, refused, accepted}
use Rattle.records.specs.Bytes.{value_of, field}

-- word k is the value of eight bytes, the least first; past the end it is 0
unfoldable pub word_at : ℕ → List ℕ → ℕ
word_at k list = cond (nat_lt k (length list / 8)) (value_of (field (k * 8) 8 list)) 0

abbrev pub float_at : ℕ → List ℕ → Float
float_at k list = from_bits binary64 (word_at k list)

-- a whole number of 32 bits; a larger word is refused with 0, which no line of the table has
unfoldable pub whole_at : ℕ → List ℕ → Outcome ℕ
whole_at k list = cond (nat_lt (word_at k list) 0x1_0000_0000) (accepted (word_at k list)) (refused 0 0)

-- the bytes of the first case, whose first word says how many words follow; 0 where they are not all there
unfoldable pub first_case : List ℕ → ℕ
first_case list = cond (nat_lt (word_at 0 list) (length list / 8)) ((word_at 0 list + 1) * 8) 0
