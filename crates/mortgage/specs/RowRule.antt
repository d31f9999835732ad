-- The row rule: a month's amounts by document 01's steps, over plain numbers, whatever loan they are of: whether the month is the last, the payment, the monthly rate and the balance
-- before it. Definitions only. Assumes nothing.
use Rattle.std.specs.Prelude.{Bool, cond, Float}
use Rattle.std.specs.Float.{binary64}
use Rattle.std.specs.Float.Ieee.{add, sub, mul}
use Rattle.numbers.specs.Clamps.{raised, lowered}

-- "interest = balance·r"
unfoldable pub interest_of : Float → Float → Float
interest_of r balance = mul binary64 balance r

-- "Principal = payment - interest, raised to 0, then lowered to the balance; in the last month the balance."
unfoldable pub principal_of : Bool → Float → Float → Float → Float
principal_of last pay r balance = cond last balance (lowered (raised (sub binary64 pay (interest_of r balance))) balance)

-- "Payment column: the payment, in the last month principal + interest."
unfoldable pub payment_of : Bool → Float → Float → Float → Float
payment_of last pay r balance = cond last (add binary64 (principal_of last pay r balance) (interest_of r balance)) pay

-- what is left: "New balance = balance - principal"
unfoldable pub left_of : Bool → Float → Float → Float → Float
left_of last pay r balance = sub binary64 balance (principal_of last pay r balance)
