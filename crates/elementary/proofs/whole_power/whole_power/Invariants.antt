-- `elementary::whole_power::whole_power` meets its contract: each turn of the loop is a turn of the definition. Assumes nothing.
use mathlib.Core.Path.{◌≡◌}
use lib.Dec.{T}
use lib.Ieee.{binary64, fits}
use Rattle.elementary.specs.WholePower.{turns, whole_power}
use Rattle.elementary.proofs.whole_power.whole_power.Given as goal

abbrev pub invariant-loop-left : goal.invariant-loop-left
invariant-loop-left l = (whole_power l.base l.exponent ≡ turns l.left l.left l.product l.square) × T (fits binary64 l.product)

abbrev pub decreases-loop-left : goal.decreases-loop-left
decreases-loop-left l = l.left
