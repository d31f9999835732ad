-- Nelson-Siegel curves. Definitions only. Assumes nothing.
use Rattle.std.specs.Prelude.{cond, [], ◌∷◌, Float}
use Rattle.std.specs.Float.{binary64}
use Rattle.std.specs.Float.Ieee.{neg, add, sub, mul, div, lt}
use Rattle.refusals.specs.Outcome.{Outcome, line, judged}
use Rattle.refusals.specs.Table.{bad_time}
use Rattle.numbers.specs.Literals.{one, ten_to_minus10}
use Rattle.elementary.specs.Exp.{exp}
use Rattle.yield_curve.specs.declared.nelson_siegel.NelsonSiegel.{NelsonSiegel}
use Rattle.yield_curve.specs.declared.nelson_siegel.CurveMetrics.{CurveMetrics}

-- before 1e-10 the formulas give way to their limit
abbrev pub soon : Float
soon = ten_to_minus10

-- t/decay, e^-(t/decay), and the two loadings (1 - e^-x)/x and (1 - e^-x)/x - e^-x
abbrev pub scaled : Float → Float → Float
scaled decay t = div binary64 t decay

abbrev pub decayed : Float → Float
decayed x = exp (neg x)

unfoldable pub slope_loading : Float → Float
slope_loading x = div binary64 (sub binary64 one (decayed x)) x

unfoldable pub hump_loading : Float → Float
hump_loading x = sub binary64 (slope_loading x) (decayed x)

-- as t goes to 0: beta0 + beta1
unfoldable pub instant_forward : NelsonSiegel → Float
instant_forward m = add binary64 m.beta0 m.beta1

unfoldable pub yield_on : NelsonSiegel → Float → Float
yield_on m t =
    cond (lt t soon) (instant_forward m)
    (add binary64 (add binary64 m.beta0 (mul binary64 m.beta1 (slope_loading (scaled m.decay t)))) (mul binary64 m.beta2 (hump_loading (scaled m.decay t))))

unfoldable pub forward_on : NelsonSiegel → Float → Float
forward_on m t =
    cond (lt t soon) (instant_forward m)
    (add binary64 (add binary64 m.beta0 (mul binary64 m.beta1 (decayed (scaled m.decay t))))
    (mul binary64 (mul binary64 m.beta2 (scaled m.decay t)) (decayed (scaled m.decay t))))

-- 7 for the maturity; betas and decay are taken as they stand
unfoldable pub yield_at : NelsonSiegel → Float → Outcome Float
yield_at m t = judged (line 7 (bad_time t) ∷ []) (yield_on m t)

unfoldable pub forward_rate_at : NelsonSiegel → Float → Outcome Float
forward_rate_at m t = judged (line 7 (bad_time t) ∷ []) (forward_on m t)

-- level, slope and curvature are the three betas
unfoldable pub metrics_of : NelsonSiegel → CurveMetrics
metrics_of m = record { level = m.beta0; slope = m.beta1; curvature = m.beta2 }
