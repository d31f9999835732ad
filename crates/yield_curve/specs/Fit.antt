-- Nelson-Siegel fitted to a curve's points by least squares, at decay 0.5. Definitions only. Assumes nothing.
use Rattle.std.specs.Prelude.{ℕ, cond, List, eqb, length, Float}
use Rattle.std.specs.Float.{binary64}
use Rattle.std.specs.Float.Ieee.{mul, lt}
use Rattle.numbers.specs.Literals.{one, half}
use Rattle.numbers.specs.Clamps.{plus_zero}
use Rattle.numbers.specs.Sums.{added_up}
use Rattle.refusals.specs.Outcome.{Outcome, judged}
use Rattle.yield_curve.specs.declared.nelson_siegel.NelsonSiegel.{NelsonSiegel}
use Rattle.yield_curve.specs.declared.solve.System.{System}
use Rattle.yield_curve.specs.declared.solve.Equation.{Equation}
use Rattle.curves.specs.Segments.{knot}
use Rattle.curves.specs.Curve.{curve_lines}
use Rattle.yield_curve.specs.NelsonSiegel.{soon, scaled, slope_loading, hump_loading}
use Rattle.yield_curve.specs.Solve.{solved}

-- "decay 0.5 when fitted"
abbrev pub decay_fitted : Float
decay_fitted = half

-- the loadings of a point's time: 1, and the two of Nelson-Siegel, which are 1 and 0 before 1e-10
unfoldable pub slope_at : Float → Float
slope_at t = cond (lt t soon) one (slope_loading (scaled decay_fitted t))

unfoldable pub hump_at : Float → Float
hump_at t = cond (lt t soon) plus_zero (hump_loading (scaled decay_fitted t))

module _ (times rates : List Float) where
  -- a sum over the points, left to right from +0
  abbrev pub over_points : (Float → Float → Float) → Float
  over_points f = added_up (λ (i : ℕ). f (knot times i) (knot rates i)) (length times)

  -- an equation of the least squares: one loading against each, and against the rates
  unfoldable pub against : (Float → Float) → Equation
  against g = record {
    x = over_points (λ (t y : Float). mul binary64 (g t) one);
    y = over_points (λ (t y : Float). mul binary64 (g t) (slope_at t));
    z = over_points (λ (t y : Float). mul binary64 (g t) (hump_at t));
    is = over_points (λ (t y : Float). mul binary64 (g t) y);
  }

  unfoldable pub least_squares : System
  least_squares = record { first = against (λ (t : Float). one); second = against slope_at; third = against hump_at }

  abbrev pub model : Float → Float → Float → NelsonSiegel
  model b0 b1 b2 = record { beta0 = b0; beta1 = b1; beta2 = b2; decay = decay_fitted }

  -- with a single point the level is its rate
  unfoldable pub fitted : NelsonSiegel
  fitted =
      cond (eqb (length times) 1) (model (knot rates 0) plus_zero plus_zero)
      (model (solved least_squares).x (solved least_squares).y (solved least_squares).z)

unfoldable pub fit : List Float → List Float → Outcome NelsonSiegel
fit times rates = judged (curve_lines times rates) (fitted times rates)
