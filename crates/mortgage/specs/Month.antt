-- The next month of a loan in hand: its row and the loan after it, by the row rule, on a course of months and then of any kind; the month that ends the loan, and how many are due.
-- Definitions only. Assumes nothing.
use Rattle.std.specs.Prelude.{ℕ, ◌+◌, ◌-◌, Bool, cond, eqb, ltb, Float}
use Rattle.std.specs.Float.{binary64}
use Rattle.std.specs.Float.Ieee.{sub}
use Rattle.numbers.specs.Clamps.{plus_zero, raised}
use Rattle.records.specs.declared.Row.{Row}
use Rattle.mortgage.specs.declared.Loan.{Loan}
use Rattle.mortgage.specs.declared.kinds.Course.{Course}
use Rattle.mortgage.specs.Payment.{monthly_rate}
use Rattle.mortgage.specs.RowRule.{interest_of, principal_of, payment_of}
use Rattle.mortgage.specs.Kinds.{Way, course_of}
use Rattle.mortgage.specs.Rates.{in_force}

-- the month whose row is next
abbrev pub month : Loan → ℕ
month l = l.done + 1

-- ---- on a course, at the rate and the payment that the loan holds
module _ (c : Course) where
  -- whether it pays interest alone, and whether it is the last
  unfoldable pub interest_alone : Loan → Bool
  interest_alone l = ltb l.done c.only

  unfoldable pub last : Loan → Bool
  last l = eqb (month l) c.end

  -- what the row rule says of it
  abbrev pub by_the_rule : {A : Type 0} → (Bool → Float → Float → Float → A) → Loan → A
  by_the_rule amount l = amount (last l) l.payment (monthly_rate l.rate) l.balance

  abbrev pub interest : Loan → Float
  interest l = interest_of (monthly_rate l.rate) l.balance

  -- "an interest-only row's payment is the interest and its principal +0"
  unfoldable pub principal : Loan → Float
  principal l = cond (interest_alone l) plus_zero (by_the_rule principal_of l)

  unfoldable pub paid : Loan → Float
  paid l = cond (interest_alone l) (interest l) (by_the_rule payment_of l)

  -- "New balance = balance - principal"
  unfoldable pub remaining : Loan → Float
  remaining l = sub binary64 l.balance (principal l)

  -- the row; "its [balance's] column is raised to 0"
  unfoldable pub row_on : Loan → Row
  row_on l = record { month = month l; payment = paid l; principal = principal l; interest = interest l; balance = raised (remaining l) }

  -- the loan in hand after it
  unfoldable pub next_on : Loan → Loan
  next_on l = record { term = l.term; rate = l.rate; payment = l.payment; done = month l; balance = remaining l }

-- ---- of any kind: its course, with the rate and the payment that it gives for the month
module _ (way : Way) where
  abbrev pub course : Loan → Course
  course l = course_of way l.term

  -- the month that ends the loan
  unfoldable pub end_month : Loan → ℕ
  end_month l = (course l).end

  -- the rows that are still due: none where more months are done than the loan has
  unfoldable pub due : Loan → ℕ
  unfolding end_month
  due l = end_month l - l.done

  unfoldable pub row_of : Loan → Row
  row_of l = row_on (course l) (in_force way l)

  unfoldable pub next_of : Loan → Loan
  next_of l = next_on (course l) (in_force way l)
