-- `elementary::powers::sixteen_powers` meets its contract: the first sixteen, each raised further. Assumes nothing.
use mathlib.Core.Path.{◌≡◌, ap, ◌∙◌}
use mathlib.Core.List.{List, map}
use Prim.Native.Nat.{ℕ, ◌*◌}
use native.Mathlib.Nat.{add-zero, le_refl}
use lib.Ieee.{Float}
use Rattle.elementary.specs.WholePower.{turns}
use Rattle.elementary.specs.Powers.{powers_from}
use Rattle.elementary.specs.inner.Squared.{squared}
use Rattle.elementary.proofs.InARow.{raised}
use Rattle.elementary.proofs.powers.sixteen_powers.Goals as goal

from_first : (base s : Float) (q : ℕ) (xs ys : List Float) → ys ≡ map (λ (x : Float). turns q q x s) xs → xs ≡ powers_from base 0 16 → s ≡ squared 4 base → ys ≡ powers_from base (16 * q) 16
from_first base s q xs ys e f g = e ∙ rw (f, g) (raised q 0 16 base (le_refl 16)) ∙ ap (λ (k : ℕ). powers_from base k 16) (add-zero (16 * q))

pub returns : goal.returns
returns c = from_first _ _ _ _ _ c.raise_each.ensures c.first_sixteen-powers.ensures c.sixteenth_power.ensures
