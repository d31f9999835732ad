-- A walk over the months that lie in a room, each changed in its turn, and the walks of a pool's loans one after the other. Definitions only. Assumes nothing.
use Rattle.std.specs.Prelude.{ℕ, zero, suc, ◌+◌, ◌*◌, List, [], ◌∷◌, get_or, Float}
use Rattle.std.proofs.lemmas.List.Edits.{sets}
use Rattle.std.specs.Float.{nan, binary64}
use Rattle.std.specs.Float.Ieee.{add, div}
use Rattle.numbers.specs.Literals.{one}
use Rattle.elementary.specs.WholePower.{whole_power}
use Rattle.records.specs.declared.Terms.{Terms}
use Rattle.pool.specs.declared.months.Month.{Month}
use Rattle.pool.specs.Months.{with_loan}
use Rattle.pool.specs.Flows.{month_width, places}
use Rattle.pool.specs.Price.{money_of}

-- the month that lies from a place on
abbrev pub month_from : List Float → ℕ → Month
month_from room at = record { principal = get_or room at nan; interest = get_or room (at + 1) nan; prepayment = get_or room (at + 2) nan }

-- the month k of a room, from 0, changed
unfoldable pub changed : (ℕ → Month → Month) → ℕ → List Float → List Float
changed change k room = sets room (k * month_width) (places (change k (month_from room (k * month_width))))

-- n months from the month k on, changed one after the other
unfoldable pub walked : (ℕ → Month → Month) → ℕ → ℕ → List Float → List Float
walked change k zero room = room
walked change k (suc n) room = walked change (suc k) n (changed change k room)

-- a loan's share in a month, at the month's speed
abbrev pub loan_added : Terms → List Float → ℕ → Month → Month
loan_added t speeds k s = with_loan s t (suc k) (get_or speeds k nan)

-- loan after loan, each over its term
unfoldable pub loans_added : List Float → List Terms → List Float → List Float
loans_added speeds [] room = room
loans_added speeds (t ∷ ts) room = loans_added speeds ts (walked (loan_added t speeds) 0 t.term room)

-- what the month i of a room is worth, from 0, at a monthly rate
abbrev pub worth_in : List Float → Float → ℕ → Float
worth_in room r i = div binary64 (money_of (month_from room (i * month_width))) (whole_power (add binary64 one r) (suc i))
