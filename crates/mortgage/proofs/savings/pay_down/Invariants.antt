-- `mortgage::savings::pay_down` meets its contract: after k months the paying down that is left starts at the state in hand. Assumes nothing.
use mathlib.Core.Path.{◌≡◌}
use Prim.Native.Nat.{◌-◌}
use Rattle.mortgage.specs.Savings.{paid_down_for}
use Rattle.mortgage.proofs.savings.pay_down.Given as goal

abbrev pub invariant-loop : goal.invariant-loop
invariant-loop l = (paid_down_for l.payment l.r l.most l.initial.state ≡ paid_down_for l.payment l.r (l.most - l.counter) l.state) × (l.state.months ≡ l.counter)
