-- What every function over a curve asks first: the two lists, and then the time. Definitions only. Assumes nothing.
use Rattle.std.specs.Prelude.{List, [], ◌∷◌, ◌++◌, length, Float}
use Rattle.refusals.specs.Outcome.{Line, line}
use Rattle.refusals.specs.Table.{unequal, bad_knot_count, bad_knots, bad_time}

-- lines 4, 5 and 6, of the two lists
abbrev pub curve_lines : List Float → List Float → List Line
curve_lines times rates =
    line 4 (unequal (length times) (length rates))
    ∷ line 5 (bad_knot_count (length times))
    ∷ record { number = 6; causes = bad_knots times rates }
    ∷ []

-- and 7, of a time that is asked
abbrev pub asked_lines : List Float → List Float → Float → List Line
asked_lines times rates t = curve_lines times rates ++ line 7 (bad_time t) ∷ []
