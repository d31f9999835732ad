-- "A row is five numbers: month, payment, principal, interest, balance." How a row lies in a room. Definitions only. Assumes nothing.
use Rattle.std.specs.Prelude.{ℕ, List, [], ◌∷◌, pos, Float}
use Rattle.std.specs.Float.{binary64}
use Rattle.std.specs.Float.Ieee.{of_int}
use Rattle.records.specs.declared.Row.{Row}

-- how many places a row takes
abbrev pub width : ℕ
width = 5

-- which of them hold the payment, the principal, the interest and the balance, from 0
abbrev pub payment_place : ℕ
payment_place = 1

abbrev pub principal_place : ℕ
principal_place = 2

abbrev pub interest_place : ℕ
interest_place = 3

abbrev pub balance_place : ℕ
balance_place = 4

abbrev pub places : Row → List Float
places r = of_int binary64 (pos r.month) ∷ r.payment ∷ r.principal ∷ r.interest ∷ r.balance ∷ []
