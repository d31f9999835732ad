-- `numbers::sizes::infinity` meets its contract: 1 / +0 is +infinity. Assumes nothing.
use Rattle.std.proofs.Common.{refl}
use lib.Ieee.{div, of_bits}
use Rattle.numbers.proofs.sizes.infinity.Goals as goal

pub returns : goal.returns
unfolding div of_bits
returns c = refl
