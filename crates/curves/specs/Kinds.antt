-- What the three kinds of curve differ in: which segment serves a time, the formula along it, and what the discount factor is at or before time 0. Definitions only. Assumes nothing.
use Rattle.std.specs.Prelude.{ℕ, cond, List, Float}
use Rattle.std.specs.Float.{binary64}
use Rattle.std.specs.Float.Ieee.{neg, mul, le}
use Rattle.numbers.specs.Literals.{one}
use Rattle.numbers.specs.Clamps.{plus_zero}
use Rattle.elementary.specs.Exp.{exp}
use Rattle.curves.specs.declared.kinds.Kind.{Kind}
use Rattle.curves.specs.declared.kinds.Kind.TheVariants as kind_is
use Rattle.curves.specs.Segments.{Ends, ends_of, segment_ending, segment_starting, flat_outside}
use Rattle.curves.specs.Formulas.{along_yields, along_zeros, along_rates}

-- at an inner knot the yield and the discount curve go by the segment that ends there, the spread curves by the one that starts there
unfoldable pub served_by : Kind → List Float → Float → ℕ
served_by kind_is.YieldCurve = segment_ending
served_by kind_is.DiscountCurve = segment_ending
served_by kind_is.SpreadCurve = segment_starting

unfoldable pub along : Kind → Ends → Float → Float
along kind_is.YieldCurve = along_yields
along kind_is.DiscountCurve = along_zeros
along kind_is.SpreadCurve = along_rates

-- the rate at a time, flat outside
unfoldable pub rate_on : Kind → List Float → List Float → Float → Float
rate_on kind times rates t = flat_outside times rates t (along kind (ends_of times rates (served_by kind times t)) t)

-- exp(-r·t), and of a discount curve 1 at or before time 0
unfoldable pub discounted : Kind → Float → Float → Float
discounted kind_is.YieldCurve rate t = exp (mul binary64 (neg rate) t)
discounted kind_is.DiscountCurve rate t = cond (le t plus_zero) one (exp (mul binary64 (neg rate) t))
discounted kind_is.SpreadCurve rate t = exp (mul binary64 (neg rate) t)

unfoldable pub discount_on : Kind → List Float → List Float → Float → Float
discount_on kind times rates t = discounted kind (rate_on kind times rates t) t

-- what it is the exp of: -r·t, and of a discount curve +0 at or before time 0
unfoldable pub exponent_at : Kind → Float → Float → Float
exponent_at kind_is.YieldCurve rate t = mul binary64 (neg rate) t
exponent_at kind_is.DiscountCurve rate t = cond (le t plus_zero) plus_zero (mul binary64 (neg rate) t)
exponent_at kind_is.SpreadCurve rate t = mul binary64 (neg rate) t
