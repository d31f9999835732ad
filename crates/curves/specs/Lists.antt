-- A list of lookups on one curve: the curve is judged once, with every time that is asked, and each time gives way to its answer. Definitions only. Assumes nothing.
use Rattle.std.specs.Prelude.{List, [], ◌∷◌, ◌++◌, map, Float}
use Rattle.refusals.specs.Outcome.{Outcome, refused, accepted, Line, judged}
use Rattle.refusals.specs.Table.{bad_time}
use Rattle.refusals.specs.Places.{placed}
use Rattle.curves.specs.Curve.{curve_lines}

-- lines 4, 5 and 6 of the curve, and 7 of each time
abbrev pub each_lines : List Float → List Float → List Float → List Line
each_lines times rates asked = curve_lines times rates ++ record { number = 7; causes = map bad_time asked } ∷ []

-- whether the call is refused, at a place that a u32 holds
unfoldable pub each_outcome : List Float → List Float → List Float → Outcome Unit
each_outcome times rates asked = placed (judged (each_lines times rates asked) tt)

-- what is lent stays as it was where the call is refused
abbrev pub or_as_before : Outcome (List Float) → List Float → List Float
or_as_before (refused k p) before = before
or_as_before (accepted after) before = after

-- the list after the call, by the function that answers one time
unfoldable pub each_after : (Float → Float) → List Float → List Float → List Float → List Float
each_after answer times rates asked = or_as_before (judged (each_lines times rates asked) (map answer asked)) asked
