-- Total interest, the remaining balance and loan to value. Definitions only. Assumes nothing.
use Rattle.std.specs.Prelude.{ℕ, zero, suc, min, false, cond, Float}
use Rattle.std.specs.Float.{inf, binary64}
use Rattle.std.specs.Float.Ieee.{div, eq}
use Rattle.numbers.specs.Clamps.{plus_zero}
use Rattle.numbers.specs.Sums.{added_up}
use Rattle.refusals.specs.Outcome.{Outcome, judged}
use Rattle.records.specs.declared.Terms.{Terms}
use Rattle.mortgage.specs.declared.Loan.{Loan}
use Rattle.mortgage.specs.Terms.{terms_lines}
use Rattle.mortgage.specs.Payment.{payment, loan_of}
use Rattle.mortgage.specs.Level.{row_of, after}

-- the interest of the row k of a loan, from 0
abbrev pub interest_at : Loan → ℕ → Float
interest_at l k = (row_of (after k l)).interest

-- "the sum of the interest column, left to right", over the whole term at the worked-out payment
unfoldable pub interest_sum : Terms → Float
interest_sum t = added_up (interest_at (loan_of t (payment t))) t.term

unfoldable pub total_interest : Terms → Outcome Float
total_interest t = judged (terms_lines t) (interest_sum t)

-- the balance column after k rows; after none, the principal
unfoldable pub balance_after : Loan → ℕ → Float
balance_after l zero = l.balance
balance_after l (suc k) = (row_of (after k l)).balance

-- past the term it stays what the last row leaves
unfoldable pub remaining_balance : Terms → ℕ → Outcome Float
remaining_balance t months = judged (terms_lines t) (balance_after (loan_of t (payment t)) (min months t.term))

-- principal over value; a value of zero gives +infinity
unfoldable pub loan_to_value : Terms → Float → Outcome Float
loan_to_value t value = judged (terms_lines t) (cond (eq value plus_zero) (inf false) (div binary64 t.principal value))
