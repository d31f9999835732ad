-- A pool's months into lent room, three numbers each. Definitions only. Assumes nothing.
use Rattle.std.specs.Prelude.{ℕ, suc, Bool, List, [], ◌∷◌, length, Float}
use Rattle.refusals.specs.Outcome.{Outcome, refused, accepted, judged}
use Rattle.refusals.specs.Table.{no_room_for_all}
use Rattle.steps.specs.Steps.{pieces, laid}
use Rattle.records.specs.declared.Terms.{Terms}
use Rattle.pool.specs.declared.speed.Speed.{Speed}
use Rattle.pool.specs.declared.months.Month.{Month}
use Rattle.pool.specs.Speed.{smm}
use Rattle.pool.specs.Loans.{longest, loans_in, pool_lines}
use Rattle.pool.specs.Months.{pool_month}

-- how many places a month takes
abbrev pub month_width : ℕ
month_width = 3

abbrev pub places : Month → List Float
places m = m.principal ∷ m.interest ∷ m.prepayment ∷ []

module _ (loans : List Terms) (speed : Speed) (history : List Float) where
  -- the month k, from 1
  unfoldable pub flows_in : ℕ → Month
  flows_in k = pool_month loans k (smm speed history k)

  -- the first n months, one behind the other
  abbrev pub first_months : ℕ → List Float
  first_months n = pieces (λ (i : ℕ). places (flows_in (suc i))) n

-- 3: "for a pool, less than 3 numbers for each month of its longest term"
unfoldable pub too_little : List ℕ → ℕ → Bool
too_little bytes room = no_room_for_all (longest (loans_in bytes)) room month_width

-- the months written
unfoldable pub cash_flows : List ℕ → ℕ → Outcome ℕ
cash_flows bytes room = judged (pool_lines bytes (too_little bytes room)) (longest (loans_in bytes))

abbrev pub flows_into_by : Outcome ℕ → List Terms → Speed → List Float → List Float → List Float
flows_into_by (refused k p) loans speed history room = room
flows_into_by (accepted n) loans speed history room = laid month_width n (first_months loans speed history n) room

unfoldable pub flows_into : List ℕ → Speed → List Float → List Float → List Float
flows_into bytes speed history room = flows_into_by (cash_flows bytes (length room)) (loans_in bytes) speed history room
