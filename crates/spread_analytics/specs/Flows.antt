-- A bond's cash flows, into two lent lists. Definitions only. Assumes nothing.
use Rattle.std.specs.Prelude.{ℕ, suc, max, Bool, cond, not, ◌&&◌, ◌||◌, List, [], ◌∷◌, ◌++◌, eqb, pos, length, drop, Float}
use Rattle.std.specs.Float.{binary64}
use Rattle.std.specs.Float.Ieee.{add, mul, div, of_int}
use Rattle.numbers.specs.Literals.{one}
use Rattle.numbers.specs.Whole.{nearest_whole}
use Rattle.refusals.specs.Outcome.{Outcome, refused, accepted, Line, line, judged}
use Rattle.refusals.specs.Table.{bad_amount, no_room_in_either, bad_time, too_many_periods, bad_number}
use Rattle.steps.specs.Steps.{singles}

-- the frequency; 0 is read as 1
abbrev pub per_year : ℕ → Float
per_year frequency = of_int binary64 (pos (max frequency 1))

module _ (face coupon tenor : Float) (frequency : ℕ) where
  unfoldable pub flow_count : ℕ
  flow_count = nearest_whole (mul binary64 tenor (per_year frequency))

  unfoldable pub flow_period : Float
  flow_period = div binary64 one (per_year frequency)

  unfoldable pub flow_coupon : Float
  flow_coupon = div binary64 (mul binary64 face coupon) (per_year frequency)

  -- the flow i, from 1: its time and its amount, the face with the last
  unfoldable pub flow_time : ℕ → Float
  flow_time i = mul binary64 (of_int binary64 (pos i)) flow_period

  unfoldable pub flow_amount : ℕ → Float
  flow_amount i = cond (eqb i flow_count) (add binary64 flow_coupon face) flow_coupon

  -- 7, and 3 where 7 has no cause
  unfoldable pub bad_flows : Bool
  bad_flows = bad_time tenor || too_many_periods flow_count

  unfoldable pub no_flow_room : ℕ → ℕ → Bool
  no_flow_room times amounts = not bad_flows && no_room_in_either flow_count times amounts

  abbrev pub flow_lines : ℕ → ℕ → List Line
  flow_lines times amounts = line 1 (bad_amount face) ∷ line 3 (no_flow_room times amounts) ∷ line 7 bad_flows ∷ line 9 (bad_number coupon) ∷ []

  unfoldable pub bond_cash_flows : List Float → List Float → Outcome ℕ
  bond_cash_flows times amounts = judged (flow_lines (length times) (length amounts)) flow_count

-- the first k of a column, from 1
abbrev pub first_of : (ℕ → Float) → ℕ → List Float
first_of f k = singles (λ (i : ℕ). f (suc i)) k

-- a lent list after it: the column, and then what stood there; a refusal leaves it
abbrev pub column_in : Outcome ℕ → (ℕ → Float) → List Float → List Float
column_in (refused k p) f room = room
column_in (accepted n) f room = first_of f n ++ drop n room
