-- What the first loop over several numbers at once makes ready for the second: of each number what is left of it, and the power of two that goes with it. Assumes nothing.
use Rattle.std.proofs.Common.{◌≡◌, ℕ, ◌<◌, List, length, get_or}
use Rattle.std.specs.Float.{nan}
use Rattle.std.specs.Float.Ieee.{Float}
use Rattle.elementary.specs.Exp.{reduced, signed, below, halvings, two_to}

abbrev pub multiple : Float → Float
multiple x = signed (below x) (halvings x)

abbrev pub rest : Float → Float
rest x = reduced x (multiple x)

abbrev pub scale : Float → Float
scale x = two_to (below x) (halvings x)

-- a row of n numbers that has the values of f at the first j places of xs
pub record HasUpTo (f : Float → Float) (xs : List Float) (n : ℕ) (row : List Float) (j : ℕ) : Type 0 where
  pub size : length row ≡ n
  pub at : (k : ℕ) → k < j → get_or row k nan ≡ f (get_or xs k nan)
