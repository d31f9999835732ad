-- A cause that was worked out beside the lines of a curve. Assumes nothing.
use mathlib.Core.Path.{◌≡◌, ap, ◌∙◌}
use mathlib.Core.Bool.{Bool}
use mathlib.Core.List.{List, [], ◌∷◌, ◌++◌}
use lib.Ieee.{Float}
use Rattle.refusals.specs.Outcome.{Outcome, line}
use Rattle.refusals.proofs.Verdicts.{verdict}
use Rattle.curves.specs.Curve.{curve_lines}

-- what is asked of a curve, told by a test of its own
pub by_cause : (tenors rates : List Float) {told bad : Bool} {o : Outcome Unit} → told ≡ bad
    → o ≡ verdict (curve_lines tenors rates ++ line 7 told ∷ []) → o ≡ verdict (curve_lines tenors rates ++ line 7 bad ∷ [])
by_cause tenors rates same e = e ∙ ap (λ (b : Bool). verdict (curve_lines tenors rates ++ line 7 b ∷ [])) same
