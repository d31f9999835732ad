-- What the two loadings of a point's time take the exp of, so that many may be worked out at once. Definitions only. Assumes nothing.
use Rattle.std.specs.Prelude.{cond, Float}
use Rattle.std.specs.Float.Ieee.{neg, lt}
use Rattle.numbers.specs.Clamps.{plus_zero}
use Rattle.yield_curve.specs.NelsonSiegel.{soon, scaled}
use Rattle.yield_curve.specs.Fit.{decay_fitted}

-- +0 stands where they take none
abbrev pub loading_exponent : Float → Float
loading_exponent t = cond (lt t soon) plus_zero (neg (scaled decay_fitted t))
