-- Every amount of a month of a loan of any kind, and the payment and the balance after any number of rows, is a number that the machine holds, where the payment and the balance before
-- are. Assumes nothing.
use mathlib.Core.Bool.{Bool, true, false, cond}
use Prim.Native.Nat.{ℕ, zero, suc}
use lib.Dec.{T}
use lib.Ieee.{Float, binary64, fits, lt, of_bits}
use lib.Ieee.Fits.{cond-fits, add-fits, sub-fits, mul-fits}
use Rattle.numbers.specs.Clamps.{plus_zero, raised, lowered}
use Rattle.records.specs.declared.Row.{Row}
use Rattle.mortgage.specs.declared.Loan.{Loan}
use Rattle.mortgage.specs.declared.kinds.Course.{Course}
use Rattle.mortgage.specs.Payment.{monthly_rate}
use Rattle.mortgage.specs.RowRule.{interest_of, principal_of, payment_of}
use Rattle.mortgage.specs.Kinds.{Way, level, interest_only, balloon, adjustable}
use Rattle.mortgage.specs.Rates.{next_rate, entry_behind, begins_later_year, adjusted_to, in_force}
use Rattle.mortgage.specs.Month.{interest_alone, last, by_the_rule, interest, principal, paid, remaining, row_on, next_on, course, row_of, next_of}
use Rattle.steps.specs.Steps.{stepped}
use Rattle.mortgage.specs.Rows.{after}
use Rattle.mortgage.proofs.PaymentLaws.{payment_held}

-- the machine holds it
abbrev pub Held : Float → Type 0
Held x = T (fits binary64 x)

nothing_held : Held plus_zero
unfolding fits of_bits
nothing_held = tt

raised_held : (x : Float) → Held x → Held (raised x)
raised_held x h = cond-fits binary64 (lt plus_zero x) x plus_zero h nothing_held

lowered_held : (p b : Float) → Held p → Held b → Held (lowered p b)
lowered_held p b h g = cond-fits binary64 (lt p b) p b h g

-- ---- a loan in hand, and a row
pub record LoanHeld (l : Loan) : Type 0 where
  pub pays : Held l.payment
  pub owes : Held l.balance

pub record RowHeld (r : Row) : Type 0 where
  pub payment_held : Held r.payment
  pub principal_held : Held r.principal
  pub interest_held : Held r.interest
  pub balance_held : Held r.balance

-- ---- a month on a course
module _ (c : Course) (l : Loan) (h : LoanHeld l) where
  interest_fits : Held (interest c l)
  unfolding interest_of
  interest_fits = mul-fits binary64 _ _

  by_the_rule_fits : (end : Bool) → Held (principal_of end l.payment (monthly_rate l.rate) l.balance) × Held (payment_of end l.payment (monthly_rate l.rate) l.balance)
  unfolding principal_of payment_of
  by_the_rule_fits true = (h.owes, add-fits binary64 _ _)
  by_the_rule_fits false = (lowered_held (raised _) l.balance (raised_held _ (sub-fits binary64 _ _)) h.owes, h.pays)

  principal_fits : Held (principal c l)
  unfolding principal
  principal_fits = cond-fits binary64 (interest_alone c l) plus_zero (by_the_rule c principal_of l) nothing_held (by_the_rule_fits (last c l)).0

  paid_fits : Held (paid c l)
  unfolding paid
  paid_fits = cond-fits binary64 (interest_alone c l) (interest c l) (by_the_rule c payment_of l) interest_fits (by_the_rule_fits (last c l)).1

  remaining_fits : Held (remaining c l)
  unfolding remaining
  remaining_fits = sub-fits binary64 _ _

  row_on_held : RowHeld (row_on c l)
  unfolding row_on
  row_on_held = record { payment_held = paid_fits; principal_held = principal_fits; interest_held = interest_fits; balance_held = raised_held (remaining c l) remaining_fits }

  next_on_held : LoanHeld (next_on c l)
  unfolding next_on
  next_on_held = record { pays = h.pays; owes = remaining_fits }

-- ---- of any kind
adjusted_held : (rate : Float) (l : Loan) → LoanHeld l → LoanHeld (adjusted_to rate l)
unfolding adjusted_to
adjusted_held rate l h = record { pays = payment_held _; owes = h.owes }

in_force_held : (way : Way) (l : Loan) → LoanHeld l → LoanHeld (in_force way l)
unfolding in_force
in_force_held level l h = h
in_force_held (interest_only months) l h = h
in_force_held (balloon month) l h = h
in_force_held (adjustable a index) l h = either (begins_later_year l.done) _ (adjusted_held (next_rate a l.rate (entry_behind index l.done)) l h)
  where
    either : (b : Bool) (m : Loan) → LoanHeld m → LoanHeld (cond b m l)
    either true m g = g
    either false m g = h

pub row_held : (way : Way) (l : Loan) → LoanHeld l → RowHeld (row_of way l)
unfolding row_of
row_held way l h = row_on_held (course way l) (in_force way l) (in_force_held way l h)

pub after_held : (way : Way) (k : ℕ) (l : Loan) → LoanHeld l → LoanHeld (after way k l)
unfolding stepped next_of
after_held way zero l h = h
after_held way (suc k) l h = next_on_held (course way (after way k l)) (in_force way (after way k l)) (in_force_held way (after way k l) (after_held way k l h))
