-- A Nelson-Siegel model as four numbers, and its metrics as three. Definitions only. Assumes nothing.
use Rattle.std.specs.Prelude.{List, [], ◌∷◌, get_or, Float}
use Rattle.std.specs.Float.{nan}
use Rattle.yield_curve.specs.declared.nelson_siegel.NelsonSiegel.{NelsonSiegel}
use Rattle.yield_curve.specs.declared.nelson_siegel.CurveMetrics.{CurveMetrics}

abbrev pub model_of : List Float → NelsonSiegel
model_of numbers = record { beta0 = get_or numbers 0 nan; beta1 = get_or numbers 1 nan; beta2 = get_or numbers 2 nan; decay = get_or numbers 3 nan }

abbrev pub model_numbers : NelsonSiegel → List Float
model_numbers m = m.beta0 ∷ m.beta1 ∷ m.beta2 ∷ m.decay ∷ []

abbrev pub metrics_numbers : CurveMetrics → List Float
metrics_numbers m = m.level ∷ m.slope ∷ m.curvature ∷ []
