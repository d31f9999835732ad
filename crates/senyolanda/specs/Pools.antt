-- A prepayment speed by its code, and a pool that is asked with it. Definitions only. Assumes nothing.
use Rattle.std.specs.Prelude.{ℕ, Bool, cond, List, [], ◌∷◌, ◌++◌, eqb, length, take, Float}
use Rattle.refusals.specs.Outcome.{Outcome, refused, accepted, Line, line, alone, and_then, judged}
use Rattle.refusals.specs.Table.{bad_code}
use Rattle.pool.specs.declared.speed.Speed.{Speed}
use Rattle.pool.specs.declared.speed.Speed.TheVariants.{Cpr, Psa, History}
use Rattle.pool.specs.declared.totals.Totals.{Totals}
use Rattle.pool.specs.Loans.{bad_records, pool_lines}
use Rattle.refusals.specs.Places.{placed}
use Rattle.pool.specs.Speed.{smm}
use Rattle.pool.specs.Flows.{too_little, cash_flows, flows_into}

-- 0: CPR with its rate; 1: PSA with its factor; 2: a history, which lies beside it
unfoldable pub speed_at : ℕ → Float → Speed
speed_at code number = cond (eqb code 0) (Cpr number) (cond (eqb code 1) (Psa number) History)

abbrev pub last_speed : ℕ
last_speed = 2

unfoldable pub speed_of : ℕ → Float → Outcome Speed
speed_of code number = judged (line 11 (bad_code last_speed code) ∷ []) (speed_at code number)

-- the lines that a pool and a speed code meet: the pool's, and in line 11 the code as a single argument, at 0 and so before a bad record
abbrev pub speed_lines : List ℕ → Bool → ℕ → List Line
speed_lines bytes no_room code = take 4 (pool_lines bytes no_room) ++ record { number = 11; causes = alone (bad_code last_speed code) (bad_records bytes) } ∷ []

-- the speed that a pool is asked with; whether its room is too little is asked where there is room. With a known code the pool's own function judges
unfoldable pub speed_for : List ℕ → Bool → ℕ → Float → Outcome Speed
speed_for bytes no_room code number =
    cond (bad_code last_speed code) (placed (judged (speed_lines bytes no_room code) (speed_at code number))) (accepted (speed_at code number))

-- the share that is prepaid in a month
unfoldable pub smm_of : ℕ → Float → List Float → ℕ → Outcome Float
smm_of code number history month = and_then (speed_of code number) (λ (s : Speed). accepted (smm s history month))

-- the months that are written, and the room after them
unfoldable pub months_of : List ℕ → ℕ → Float → ℕ → Outcome ℕ
months_of bytes code number room = and_then (speed_for bytes (too_little bytes room) code number) (λ (s : Speed). placed (cash_flows bytes room))

abbrev pub room_by : Outcome Speed → List ℕ → List Float → List Float → List Float
room_by (refused k p) bytes history room = room
room_by (accepted s) bytes history room = flows_into bytes s history room

unfoldable pub room_after : List ℕ → ℕ → Float → List Float → List Float → List Float
room_after bytes code number history room = room_by (speed_for bytes (too_little bytes (length room)) code number) bytes history room

abbrev pub totals_numbers : Totals → List Float
totals_numbers t = t.balance ∷ t.coupon ∷ t.maturity ∷ []
