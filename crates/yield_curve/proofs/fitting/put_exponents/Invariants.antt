-- `yield_curve::fitting::put_exponents` meets its contract: each place passed holds the exponent of its point. Assumes nothing.
use Rattle.std.proofs.Common.{◌≡◌, ℕ, ◌<◌}
use Rattle.curves.specs.Segments.{knot}
use Rattle.yield_curve.specs.inner.Loadings.{loading_exponent}
use Rattle.yield_curve.proofs.fitting.put_exponents.Given as goal

abbrev pub invariant-loop-i : goal.invariant-loop-i
invariant-loop-i l = (k : ℕ) → k < l.i → knot l.room k ≡ loading_exponent (knot l.times k)
