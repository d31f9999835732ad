-- The monthly payment, and the loan in hand that an opening gives. Definitions only. Assumes nothing.
use Rattle.std.specs.Prelude.{ℕ, cond, pos, Float}
use Rattle.std.specs.Float.{binary64}
use Rattle.std.specs.Float.Ieee.{add, sub, mul, div, eq, of_int}
use Rattle.numbers.specs.Literals.{one, twelve}
use Rattle.elementary.specs.WholePower.{whole_power}
use Rattle.refusals.specs.Outcome.{Outcome, judged}
use Rattle.records.specs.declared.Terms.{Terms}
use Rattle.mortgage.specs.declared.Loan.{Loan}
use Rattle.mortgage.specs.Terms.{terms_lines}

-- "r = rate/12"
unfoldable pub monthly_rate : Float → Float
monthly_rate rate = div binary64 rate twelve

-- "f = (1+r)^n"
unfoldable pub growth : Float → ℕ → Float
growth r n = whole_power (add binary64 one r) n

-- "P·r·f/(f-1), left to right"
unfoldable pub level_payment : Float → Float → Float → Float
level_payment P r f = div binary64 (mul binary64 (mul binary64 P r) f) (sub binary64 f one)

-- "P/n"
unfoldable pub equal_part : Float → ℕ → Float
equal_part P n = div binary64 P (of_int binary64 (pos n))

-- "Whenever the factor equals 1 the payment becomes P/n", else it is document 01's: over n months with the factor f. At a rate of 0 the factor is 1 (`zero_rate` in proofs/PaymentLaws).
abbrev pub payment_by : Float → Float → ℕ → Float → Float
payment_by P r n f = cond (eq f one) (equal_part P n) (level_payment P r f)

unfoldable pub payment : Terms → Float
payment t = payment_by t.principal (monthly_rate t.rate) t.term (growth (monthly_rate t.rate) t.term)

-- what `monthly_payment` answers
unfoldable pub monthly_payment : Terms → Outcome Float
monthly_payment t = judged (terms_lines t) (payment t)

-- "A loan in hand holds its term, annual rate, payment, months done and balance": before its first month
unfoldable pub loan_of : Terms → Float → Loan
loan_of t pay = record { term = t.term; rate = t.rate; payment = pay; done = 0; balance = t.principal }

-- "It is opened with the worked-out payment or with a given one."
unfoldable pub opened_with : Terms → Float → Outcome Loan
opened_with t pay = judged (terms_lines t) (loan_of t pay)

unfoldable pub opened : Terms → Outcome Loan
opened t = opened_with t (payment t)
