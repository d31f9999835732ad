-- What a spread's functions answer with, in lent places. Definitions only. Assumes nothing.
use Rattle.std.specs.Prelude.{ℕ, List, [], ◌∷◌, Float}
use Rattle.spread_analytics.specs.declared.spread.Sensitivity.{Sensitivity}
use Rattle.spread_analytics.specs.Spread.{Found, found, at_end}

-- a spread in points, and 1 where it was found, 0 where it is the end nearer zero
abbrev pub spread_numbers : Found → Float × ℕ
spread_numbers (found points) = (points, 1)
spread_numbers (at_end points) = (points, 0)

abbrev pub sensitivity_numbers : Sensitivity → List Float
sensitivity_numbers s = s.duration ∷ s.convexity ∷ []
