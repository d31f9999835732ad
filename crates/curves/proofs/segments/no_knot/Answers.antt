-- `curves::segments::no_knot` meets its contract: the library's NaN is the NaN. Assumes nothing.
use Rattle.std.proofs.Common.{refl}
use lib.Ieee.{of_bits}
use Rattle.curves.proofs.segments.no_knot.Goals as goal

pub returns : goal.returns
unfolding of_bits
returns c = refl
