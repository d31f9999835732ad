-- A loan's month in a pool, rule 1: the state that goes in, the three numbers, and the state that comes out; and its sums over a pool. Definitions only. Assumes nothing.
use Rattle.std.specs.Prelude.{ℕ, zero, suc, false, cond, List, [], ◌∷◌, ltb, Float}
use Rattle.std.specs.Float.{binary64}
use Rattle.std.specs.Float.Ieee.{add, mul, le}
use Rattle.numbers.specs.Clamps.{plus_zero}
use Rattle.records.specs.declared.Terms.{Terms}
use Rattle.mortgage.specs.Payment.{monthly_rate, payment, loan_of}
use Rattle.mortgage.specs.RowRule.{interest_of, principal_of, left_of}
use Rattle.mortgage.specs.Totals.{balance_after}
use Rattle.pool.specs.declared.months.Month.{Month}

-- a loan's month: its balance goes in, scheduled principal, interest and prepayment at a speed come out, and the balance of the next month: "each loan's scheduled balance, which earlier prepayments do not lower".
-- By the row rule, with no month the last
unfoldable pub loan_month : Terms → Float → Float → Month × Float
loan_month t balance speed =
    let r : Float = monthly_rate t.rate in
    let left : Float = left_of false (payment t) r balance in
    (record { principal = principal_of false (payment t) r balance; interest = interest_of r balance; prepayment = mul binary64 left speed }, left)

abbrev pub nothing : Month
nothing = record { principal = plus_zero; interest = plus_zero; prepayment = plus_zero }

-- a sum grows by a month; a loan past its term or with a balance at or below 0 is passed over
abbrev pub plus : Month → Month → Month
plus s m = record {
  principal = add binary64 s.principal m.principal;
  interest = add binary64 s.interest m.interest;
  prepayment = add binary64 s.prepayment m.prepayment;
}

-- the scheduled balance before the month k, from 1, as `remaining_balance` gives it
unfoldable pub balance_before : Terms → ℕ → Float
balance_before t zero = t.principal
balance_before t (suc k) = balance_after (loan_of t (payment t)) k

unfoldable pub with_loan : Month → Terms → ℕ → Float → Month
with_loan s t month speed =
    cond (ltb t.term month) s (cond (le (balance_before t month) plus_zero) s (plus s (loan_month t (balance_before t month) speed).0))

-- the pool's month: loan by loan, left to right from +0
unfoldable pub month_of : List Terms → Month → ℕ → Float → Month
month_of [] s month speed = s
month_of (t ∷ ts) s month speed = month_of ts (with_loan s t month speed) month speed

abbrev pub pool_month : List Terms → ℕ → Float → Month
pool_month loans month speed = month_of loans nothing month speed
