-- `swaps::legs::both_legs_of` meets its contract. Assumes nothing.
use mathlib.Core.Path.{refl}
use Rattle.swaps.proofs.legs.both_legs_of.Goals as goal

pub legs_with-requires-2 : goal.legs_with-requires-2
legs_with-requires-2 c = (c.requires.0, c.requires.1, c.payment_sums-sums.ensures.on_higher refl)
