-- The yield curve: linear interpolation, discount factors, forward rates and par yields. Definitions only. Assumes nothing.
use Rattle.std.specs.Prelude.{ℕ, suc, cond, ◌||◌, List, [], ◌∷◌, ◌++◌, eqb, pos, Float}
use Rattle.std.specs.Float.{binary64}
use Rattle.std.specs.Float.Ieee.{neg, sub, mul, div, lt, of_int}
use Rattle.numbers.specs.Literals.{one, two, tiny}
use Rattle.numbers.specs.Clamps.{plus_zero}
use Rattle.numbers.specs.Sizes.{absolute}
use Rattle.numbers.specs.Whole.{nearest_whole}
use Rattle.numbers.specs.Sums.{added_up}
use Rattle.refusals.specs.Outcome.{Outcome, line, judged}
use Rattle.refusals.specs.Table.{bad_time, too_many_periods}
use Rattle.elementary.specs.Exp.{exp}
use Rattle.curves.specs.Segments.{segment_ending, flat_outside, ends_of}
use Rattle.curves.specs.Curve.{curve_lines, asked_lines}
use Rattle.curves.specs.Formulas.{along_yields}

-- flat outside, and between the knots "YieldCurve y0 + w·(y1-y0)" along the segment that ends at an inner knot
unfoldable pub yield_of : List Float → List Float → Float → Float
yield_of times rates t = flat_outside times rates t (along_yields (ends_of times rates (segment_ending times t)) t)

-- exp(-y·t)
unfoldable pub discount_of : List Float → List Float → Float → Float
discount_of times rates t = exp (mul binary64 (neg (yield_of times rates t)) t)

-- (t2·y2 - t1·y1)/(t2-t1), and y1 where |t2-t1| < 1e-12
unfoldable pub forward_of : List Float → List Float → Float → Float → Float
forward_of times rates t1 t2 =
    cond (lt (absolute (sub binary64 t2 t1)) tiny) (yield_of times rates t1)
    (div binary64 (sub binary64 (mul binary64 t2 (yield_of times rates t2)) (mul binary64 t1 (yield_of times rates t1))) (sub binary64 t2 t1))

-- ---- par yield, over half years: (1 - df(T))/(dt·sum df)
unfoldable pub half_years : Float → ℕ
half_years t = nearest_whole (mul binary64 t two)

unfoldable pub half_year : Float → Float
half_year t = div binary64 t (of_int binary64 (pos (half_years t)))

unfoldable pub discount_sum : List Float → List Float → Float → Float
discount_sum times rates t =
    added_up (λ (i : ℕ). discount_of times rates (mul binary64 (of_int binary64 (pos (suc i))) (half_year t))) (half_years t)

unfoldable pub par_of : List Float → List Float → Float → Float
par_of times rates t =
    cond (eqb (half_years t) 0) (yield_of times rates t)
    (cond (lt (absolute (discount_sum times rates t)) tiny) plus_zero
    (div binary64 (sub binary64 one (discount_of times rates t)) (mul binary64 (half_year t) (discount_sum times rates t))))

-- ---- what the functions answer
unfoldable pub linear_interpolate : List Float → List Float → Float → Outcome Float
linear_interpolate times rates t = judged (asked_lines times rates t) (yield_of times rates t)

unfoldable pub discount_factor : List Float → List Float → Float → Outcome Float
discount_factor times rates t = judged (asked_lines times rates t) (discount_of times rates t)

-- 7 for either time
unfoldable pub forward_rate : List Float → List Float → Float → Float → Outcome Float
forward_rate times rates t1 t2 = judged (curve_lines times rates ++ line 7 (bad_time t1 || bad_time t2) ∷ []) (forward_of times rates t1 t2)

-- 7 also for more than 1,200 half years
unfoldable pub par_yield : List Float → List Float → Float → Outcome Float
par_yield times rates t = judged (curve_lines times rates ++ line 7 (bad_time t || too_many_periods (half_years t)) ∷ []) (par_of times rates t)
