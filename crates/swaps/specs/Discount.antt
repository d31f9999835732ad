-- The discount curve: its zero rate and its discount factor at a time. Definitions only. Assumes nothing.
use Rattle.std.specs.Prelude.{cond, List, Float}
use Rattle.std.specs.Float.{binary64}
use Rattle.std.specs.Float.Ieee.{neg, mul, le}
use Rattle.numbers.specs.Literals.{one}
use Rattle.numbers.specs.Clamps.{plus_zero}
use Rattle.refusals.specs.Outcome.{Outcome, judged}
use Rattle.elementary.specs.Exp.{exp}
use Rattle.curves.specs.Segments.{segment_ending, flat_outside, ends_of}
use Rattle.curves.specs.Curve.{asked_lines}
use Rattle.curves.specs.Formulas.{along_zeros}

-- flat outside, and between the knots "DiscountCurve z0·(1-w) + z1·w" along the segment that ends at an inner knot
unfoldable pub zero_rate_of : List Float → List Float → Float → Float
zero_rate_of tenors zeros t = flat_outside tenors zeros t (along_zeros (ends_of tenors zeros (segment_ending tenors t)) t)

-- 1 at or before time 0, else exp(-r·t)
unfoldable pub discount_of : List Float → List Float → Float → Float
discount_of tenors zeros t = cond (le t plus_zero) one (exp (mul binary64 (neg (zero_rate_of tenors zeros t)) t))

unfoldable pub rate_at : List Float → List Float → Float → Outcome Float
rate_at tenors zeros t = judged (asked_lines tenors zeros t) (zero_rate_of tenors zeros t)

unfoldable pub discount_factor : List Float → List Float → Float → Outcome Float
discount_factor tenors zeros t = judged (asked_lines tenors zeros t) (discount_of tenors zeros t)
