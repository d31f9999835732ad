-- What paying more each month saves. Definitions only. Assumes nothing.
use Rattle.std.specs.Prelude.{ℕ, zero, suc, ◌+◌, ◌-◌, ◌*◌, cond, Float}
use Rattle.std.specs.Float.{binary64}
use Rattle.std.specs.Float.Ieee.{add, sub, mul, lt, le}
use Rattle.numbers.specs.Literals.{millionth}
use Rattle.numbers.specs.Clamps.{plus_zero, raised, lowered}
use Rattle.refusals.specs.Outcome.{Outcome, judged}
use Rattle.records.specs.declared.Terms.{Terms}
use Rattle.mortgage.specs.declared.savings.Paydown.{Paydown}
use Rattle.mortgage.specs.declared.savings.Savings.{Savings}
use Rattle.mortgage.specs.Terms.{terms_lines}
use Rattle.mortgage.specs.Payment.{monthly_rate, payment}
use Rattle.mortgage.specs.Totals.{interest_sum}

-- a month's interest, and its principal: "lowers to the balance first and raises to 0 after (NaN lowers to the balance)"
abbrev pub interest_on : Float → Float → Float
interest_on r balance = mul binary64 balance r

abbrev pub prepaid : Float → Float → Float → Float
prepaid pay r balance = raised (lowered (sub binary64 pay (interest_on r balance)) balance)

-- one month of paying down
unfoldable pub paid_down : Float → Float → Paydown → Paydown
paid_down pay r s = record {
  balance = sub binary64 s.balance (prepaid pay r s.balance);
  months = s.months + 1;
  interest = add binary64 s.interest (interest_on r s.balance);
}

-- "It runs while the balance is above 0 and months are below 2n, stopping once it is at or below 1e-6": at most k months more
unfoldable pub paid_down_for : Float → Float → ℕ → Paydown → Paydown
paid_down_for pay r zero s = s
paid_down_for pay r (suc k) s =
    cond (lt plus_zero s.balance) (cond (le (paid_down pay r s).balance millionth) (paid_down pay r s) (paid_down_for pay r k (paid_down pay r s))) s

-- paid down to the end, at the worked-out payment and so much more
unfoldable pub paid_off : Terms → Float → Paydown
paid_off t extra =
    paid_down_for (add binary64 (payment t) extra) (monthly_rate t.rate) (2 * t.term) (record { balance = t.principal; months = 0; interest = plus_zero })

-- months and interest saved, neither below zero
unfoldable pub saved : Terms → Float → Savings
saved t extra = record { months = t.term - (paid_off t extra).months; interest = raised (sub binary64 (interest_sum t) (paid_off t extra).interest) }

unfoldable pub prepayment_savings : Terms → Float → Outcome Savings
prepayment_savings t extra = judged (terms_lines t) (saved t extra)
