-- A pool's price, and its duration and convexity for any bump. Definitions only. Assumes nothing.
use Rattle.std.specs.Prelude.{ℕ, suc, false, cond, List, Float}
use Rattle.std.specs.Float.{binary64}
use Rattle.std.specs.Float.Ieee.{add, sub, mul, div, eq}
use Rattle.numbers.specs.Literals.{one, two, basis_point}
use Rattle.numbers.specs.Clamps.{plus_zero}
use Rattle.numbers.specs.Sums.{added_up}
use Rattle.refusals.specs.Outcome.{Outcome, judged}
use Rattle.elementary.specs.WholePower.{whole_power}
use Rattle.records.specs.declared.Terms.{Terms}
use Rattle.mortgage.specs.Payment.{monthly_rate}
use Rattle.pool.specs.declared.speed.Speed.{Speed}
use Rattle.pool.specs.declared.months.Month.{Month}
use Rattle.pool.specs.Loans.{longest, loans_in, pool_lines}
use Rattle.pool.specs.Flows.{flows_in}

-- a month's money, principal + interest + prepayment, over (1 + r)^month
abbrev pub money_of : Month → Float
money_of m = add binary64 (add binary64 m.principal m.interest) m.prepayment

module _ (loans : List Terms) (speed : Speed) (history : List Float) where
  unfoldable pub worth_at : Float → ℕ → Float
  worth_at r i = div binary64 (money_of (flows_in loans speed history (suc i))) (whole_power (add binary64 one r) (suc i))

  unfoldable pub price_at : Float → Float
  price_at rate = added_up (worth_at (monthly_rate rate)) (longest loans)

  -- (down - up)/(2·bump·price), and (up + down - 2·price)/(bump·bump·price); 0 where the price is 0
  unfoldable pub duration_for : Float → Float → Float
  duration_for bump rate =
      cond (eq (price_at rate) plus_zero) plus_zero
      (div binary64 (sub binary64 (price_at (sub binary64 rate bump)) (price_at (add binary64 rate bump))) (mul binary64 (mul binary64 two bump) (price_at rate)))

  unfoldable pub convexity_for : Float → Float → Float
  convexity_for bump rate =
      cond (eq (price_at rate) plus_zero) plus_zero
      (div binary64 (sub binary64 (add binary64 (price_at (add binary64 rate bump)) (price_at (sub binary64 rate bump))) (mul binary64 two (price_at rate)))
      (mul binary64 (mul binary64 bump bump) (price_at rate)))

unfoldable pub pool_price : List ℕ → Speed → List Float → Float → Outcome Float
pool_price bytes speed history rate = judged (pool_lines bytes false) (price_at (loans_in bytes) speed history rate)

unfoldable pub pool_duration : List ℕ → Speed → List Float → Float → Outcome Float
pool_duration bytes speed history rate = judged (pool_lines bytes false) (duration_for (loans_in bytes) speed history basis_point rate)

unfoldable pub pool_convexity : List ℕ → Speed → List Float → Float → Outcome Float
pool_convexity bytes speed history rate = judged (pool_lines bytes false) (convexity_for (loans_in bytes) speed history basis_point rate)
