-- `swaps::knots::bisect` meets its contract: the halvings that are left, from the bracket in hand, give the answer; three of them go by errors that were
-- worked out together. Assumes nothing.
use mathlib.Core.Path.{◌≡◌}
use Prim.Native.Nat.{◌*◌, ◌-◌}
use Rattle.swaps.specs.Bootstrap.{bisected}
use Rattle.swaps.specs.inner.Knots.{error_of}
use Rattle.swaps.proofs.knots.bisect.Given as goal

abbrev pub invariant-loop-three : goal.invariant-loop-three
invariant-loop-three l = bisected (error_of l.tenors l.earlier l.knot) 198 l.initial.bracket.lo l.initial.bracket.hi ≡ bisected (error_of l.tenors l.earlier l.knot) ((66 - l._three) * 3) l.bracket.lo l.bracket.hi
