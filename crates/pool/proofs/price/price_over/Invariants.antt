-- `pool::price::price_over` meets its contract: the months before the one in hand are added up. Assumes nothing.
use mathlib.Core.Path.{◌≡◌}
use Rattle.numbers.specs.Sums.{added_up}
use Rattle.mortgage.specs.Payment.{monthly_rate}
use Rattle.pool.specs.inner.Walk.{worth_in}
use Rattle.pool.proofs.price.price_over.Given as goal

abbrev pub invariant-loop-k : goal.invariant-loop-k
invariant-loop-k l = l.total ≡ added_up (worth_in l.room (monthly_rate l.rate)) l.k
