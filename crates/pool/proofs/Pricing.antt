-- A price from the months that lie in a room that was filled. Assumes nothing.
use mathlib.Core.Path.{◌≡◌, ap, ◌∙◌}
use mathlib.Core.List.{List, ◌++◌}
use Prim.Native.Nat.{ℕ, suc, ◌*◌, ◌<◌}
use lib.Ieee.{Float, binary64, add, div}
use Rattle.numbers.specs.Literals.{one}
use Rattle.numbers.specs.Sums.{added_up}
use Rattle.numbers.proofs.Sums.{same_added}
use Rattle.elementary.specs.WholePower.{whole_power}
use Rattle.records.specs.declared.Terms.{Terms}
use Rattle.mortgage.specs.Payment.{monthly_rate}
use Rattle.pool.specs.declared.speed.Speed.{Speed}
use Rattle.pool.specs.declared.months.Month.{Month}
use Rattle.pool.specs.Loans.{longest}
use Rattle.pool.specs.Flows.{month_width, flows_in, first_months}
use Rattle.pool.specs.Price.{money_of, worth_at, price_at}
use Rattle.pool.specs.inner.Walk.{month_from, worth_in}
use Rattle.pool.proofs.RoomMonths.{month_lies}

pub priced : (ts : List Terms) (speed : Speed) (history : List Float) (n : ℕ) (room rest : List Float) (rate : Float)
    → room ≡ first_months ts speed history n ++ rest → n ≡ longest ts → added_up (worth_in room (monthly_rate rate)) n ≡ price_at ts speed history rate
unfolding price_at worth_at
priced ts speed history n room rest rate e en =
    same_added (worth_in room (monthly_rate rate)) (worth_at ts speed history (monthly_rate rate)) n
    (λ i h. ap (λ (m : Month). div binary64 (money_of m) (whole_power (add binary64 one (monthly_rate rate)) (suc i))) (lies i h))
    ∙ ap (added_up (worth_at ts speed history (monthly_rate rate))) en
  where
    lies : (i : ℕ) → i < n → month_from room (i * month_width) ≡ flows_in ts speed history (suc i)
    lies i h = rw e (month_lies (λ (k : ℕ). flows_in ts speed history (suc k)) n i rest h)
