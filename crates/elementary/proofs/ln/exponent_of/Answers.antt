-- `elementary::ln::exponent_of` meets its contract: 32 bits are fewer than a float's digits. Assumes nothing.
use Rattle.std.proofs.Common.{arith}
use Rattle.std.specs.Float.{binary64}
use Rattle.elementary.proofs.Wholes.{whole_difference}
use Rattle.elementary.proofs.ln.exponent_of.Goals as goal

pub returns : goal.returns
returns c = rw (c.from.ensures, c.from-2.ensures) (whole_difference binary64 _ _ (omega arith) (omega arith))
