-- Dates that are equally far apart, and a run of discount factors at them. Definitions only. Assumes nothing.
use Rattle.std.specs.Prelude.{◌≡◌, List, ℕ, suc, ◌+◌, ◌<◌, pos, Float}
use Rattle.std.specs.Float.{binary64}
use Rattle.std.specs.Float.Ieee.{mul, of_int}
use Rattle.curves.specs.declared.kinds.Kind.{Kind}
use Rattle.curves.specs.Segments.{knot}
use Rattle.curves.specs.Kinds.{discount_on}

-- the date after the k-th of those that are dt apart
abbrev pub date_after : Float → ℕ → Float
date_after dt k = mul binary64 (of_int binary64 (pos (suc k))) dt

-- so many discount factors, of the dates after the first ones
abbrev pub FactorsAfter : Kind → Float → List Float → List Float → ℕ → ℕ → List Float → Type 0
FactorsAfter kind dt times rates first count factors = (j : ℕ) → j < count → knot factors j ≡ discount_on kind times rates (date_after dt (first + j))
