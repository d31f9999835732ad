-- `elementary::whole_power::whole_power` meets its contract: each turn of the loop is a turn of the definition. Assumes nothing.
use mathlib.Core.Path.{refl, sym, ◌∙◌}
use Prim.Native.Nat.{◌%◌}
use lib.Dec.{eqb}
use lib.Ieee.{binary64, fits, of_bits}
use lib.Ieee.Fits.{mul-fits}
use Rattle.elementary.specs.WholePower.{whole_power}
use Rattle.elementary.proofs.Turns.{chosen, turn_on, turn_last, ended}
use Rattle.elementary.proofs.whole_power.whole_power.Goals as goal

pub loop-left-init : goal.loop-left-init
unfolding whole_power of_bits fits
loop-left-init c = (refl, tt)

pub loop-left-preserved-then-left-ne0 : goal.loop-left-preserved-then-left-ne0
loop-left-preserved-then-left-ne0 c =
    let h = c.loop-left in
    let next = chosen (eqb (h.left % 2) 1) h.product h.square _ h.invariant.1 c.factor_of-product.ensures in
    (h.invariant.0 ∙ turn_on h.left h.product _ h.square c.loop-left-test.true next c.if-left-ne0.true, mul-fits binary64 h.product _)

pub loop-left-preserved : goal.loop-left-preserved
loop-left-preserved c =
    let h = c.loop-left in
    let next = chosen (eqb (h.left % 2) 1) h.product h.square _ h.invariant.1 c.factor_of-product.ensures in
    (h.invariant.0 ∙ turn_last h.left h.product _ h.square c.loop-left-test.true next c.if-left-ne0.false, mul-fits binary64 h.product _)

pub returns : goal.returns
returns c = let h = c.loop-left in sym (h.invariant.0 ∙ ended h.left h.product h.square c.loop-left-test.false)
