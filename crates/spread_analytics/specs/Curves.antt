-- The two rate curves of spreads. Definitions only. Assumes nothing.
use Rattle.std.specs.Prelude.{cond, ◌||◌, List, [], ◌∷◌, ◌++◌, Float}
use Rattle.std.specs.Float.{binary64}
use Rattle.std.specs.Float.Ieee.{neg, sub, mul, div, lt, le}
use Rattle.numbers.specs.Literals.{tiny}
use Rattle.numbers.specs.Clamps.{plus_zero}
use Rattle.numbers.specs.Sizes.{absolute}
use Rattle.refusals.specs.Outcome.{Outcome, line, judged}
use Rattle.refusals.specs.Table.{bad_time}
use Rattle.elementary.specs.Exp.{exp}
use Rattle.elementary.specs.Ln.{ln}
use Rattle.curves.specs.Segments.{segment_starting, flat_outside, ends_of}
use Rattle.curves.specs.Curve.{curve_lines, asked_lines}
use Rattle.curves.specs.Formulas.{along_rates}

-- flat outside, and between the knots "r0 + (r1-r0)·(t-t0)/(t1-t0), left to right" along the segment that starts at an inner knot; both curves read alike
unfoldable pub rate_of : List Float → List Float → Float → Float
rate_of tenors rates t = flat_outside tenors rates t (along_rates (ends_of tenors rates (segment_starting tenors t)) t)

unfoldable pub discount_of : List Float → List Float → Float → Float
discount_of tenors rates t = exp (mul binary64 (neg (rate_of tenors rates t)) t)

-- ln(df1/df2)/(t2-t1); the rate at t1 where |t2-t1| < 1e-12, and 0 where a factor is at or below 0
unfoldable pub forward_of : List Float → List Float → Float → Float → Float
forward_of tenors rates t1 t2 =
    cond (lt (absolute (sub binary64 t2 t1)) tiny) (rate_of tenors rates t1)
    (cond (le (discount_of tenors rates t2) plus_zero || le (discount_of tenors rates t1) plus_zero) plus_zero
    (div binary64 (ln (div binary64 (discount_of tenors rates t1) (discount_of tenors rates t2))) (sub binary64 t2 t1)))

unfoldable pub rate_at : List Float → List Float → Float → Outcome Float
rate_at tenors rates t = judged (asked_lines tenors rates t) (rate_of tenors rates t)

unfoldable pub discount_factor : List Float → List Float → Float → Outcome Float
discount_factor tenors rates t = judged (asked_lines tenors rates t) (discount_of tenors rates t)

unfoldable pub forward_rate : List Float → List Float → Float → Float → Outcome Float
forward_rate tenors rates t1 t2 = judged (curve_lines tenors rates ++ line 7 (bad_time t1 || bad_time t2) ∷ []) (forward_of tenors rates t1 t2)
