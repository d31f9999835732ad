-- `listing::portions::row_at` meets its contract. Assumes nothing.
use mathlib.Core.Path.{refl}
use Rattle.listing.specs.inner.Portions.{row_at}
use Rattle.listing.proofs.portions.row_at.Goals as goal

pub returns : goal.returns
unfolding row_at
returns c = refl
