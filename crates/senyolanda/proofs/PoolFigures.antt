-- Two loans lent as a pool, the second of them bad, beside a speed that is known and one that is not: what is refused, by computation. Assumes nothing.
use mathlib.Core.Path.{◌≡◌, refl}
use mathlib.Core.List.{List, [], ◌∷◌, ◌++◌}
use Prim.Native.Nat.{ℕ}
use lib.Ieee.{lt, of_bits}
use Rattle.numbers.specs.Clamps.{plus_zero}
use Rattle.refusals.specs.Outcome.{refused, accepted, first_or, judged}
use Rattle.refusals.specs.Places.{placed}
use Rattle.refusals.specs.Table.{bad_amount, bad_term, no_room_for_all, too_many_loans, bad_code, bad_length}
use Rattle.records.specs.Bytes.{value_of, whole_at, float_at}
use Rattle.records.specs.Kinds.{terms_in}
use Rattle.records.specs.EndToEnd.{record_at, of_each}
use Rattle.pool.specs.Loans.{loan_at, other_kind, bad_records, any_of, longest}
use Rattle.pool.specs.Flows.{too_little, cash_flows}
use Rattle.senyolanda.specs.Pools.{speed_at, speed_for, months_of}

-- a record of a kind, with the last two bytes of its principal; rate 0, term 3
abbrev record_of : ℕ → ℕ → ℕ → List ℕ
record_of kind low high = kind ∷ 0 ∷ 0 ∷ 0 ∷ 0 ∷ 0 ∷ 0 ∷ low ∷ high ∷ 0 ∷ 0 ∷ 0 ∷ 0 ∷ 0 ∷ 0 ∷ 0 ∷ 0 ∷ 3 ∷ 0 ∷ 0 ∷ 0 ∷ []

-- a loan of 1; a record of kind 2; a loan of -1
abbrev good : List ℕ
good = record_of 1 240 63

abbrev another : List ℕ
another = record_of 2 240 63

abbrev below : List ℕ
below = record_of 1 240 191

-- 0 is CPR, and 3 stands for nothing; there is room for three months
abbrev Months : List ℕ → ℕ → ℕ → ℕ → Type 0
Months pool code number place = months_of pool code plus_zero 9 ≡ refused number place

pub record Table : Type 0 where
  pub known_beside_a_bad_record : Months (good ++ another) 0 11 1
  pub unknown_beside_a_bad_record : Months (good ++ another) 3 11 0
  pub unknown_beside_a_bad_amount : Months (good ++ below) 3 1 1
  pub unknown_alone : Months (good ++ good) 3 11 0
  pub known : months_of (good ++ good) 0 plus_zero 9 ≡ accepted 3

pub table : Table
unfolding months_of speed_for speed_at bad_code cash_flows too_little judged first_or placed bad_records other_kind any_of of_each longest record_at loan_at terms_in bad_amount bad_term no_room_for_all too_many_loans bad_length float_at whole_at value_of lt of_bits
table = record {
  known_beside_a_bad_record = refl;
  unknown_beside_a_bad_record = refl;
  unknown_beside_a_bad_amount = refl;
  unknown_alone = refl;
  known = refl;
}
