-- `yield_curve::linear::discount_sum` meets its contract: after each run its dates' factors are in the sum. Assumes nothing.
use Rattle.std.proofs.Common.{◌≡◌, ℕ, suc, ◌*◌}
use Rattle.std.specs.Prelude.{pos}
use Rattle.std.specs.Float.{binary64}
use Rattle.std.specs.Float.Ieee.{mul, of_int}
use Rattle.numbers.specs.Sums.{added_up}
use Rattle.yield_curve.specs.Linear.{discount_of}
use Rattle.yield_curve.proofs.linear.discount_sum.Given as goal

abbrev pub invariant-loop-run : goal.invariant-loop-run
invariant-loop-run l = l.sum ≡ added_up (λ (i : ℕ). discount_of l.times l.rates (mul binary64 (of_int binary64 (pos (suc i))) l.dt)) (l.run * 64)
