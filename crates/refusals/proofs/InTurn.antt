-- One question after another, as `?` asks them: where the first is refused, the refusal is the answer, and where it is given, what is asked of that value. Assumes nothing.
use mathlib.Core.Path.{◌≡◌, sym, ap, ◌∙◌}
use Rattle.std.specs.declared.result.Result.{Result}
use Rattle.std.specs.declared.result.Result.TheVariants.{Ok, Err}
use Rattle.std.specs.Result.{IsErrAnd}
use Rattle.refusals.specs.declared.Refusal.{Refusal}
use Rattle.refusals.specs.Outcome.{Outcome, and_then}
use Rattle.refusals.specs.Answers.{outcome}
use Rattle.refusals.proofs.Verdicts.{handed_on}

module _ {First Second : Type 0} (asked : First → Outcome Second) (o : Outcome First) (first : Result First Refusal) (e : outcome first ≡ o) where
  pub refused_at_once : {r : Refusal} (answer : Result Second Refusal) → IsErrAnd answer (λ (s : Refusal). s ≡ r) → first ≡ Err r → outcome answer ≡ and_then o asked
  refused_at_once answer i h = ap outcome (handed_on answer i) ∙ rw (sym e, h)

  pub asked_then : {v : First} {answer : Outcome Second} → first ≡ Ok v → answer ≡ asked v → answer ≡ and_then o asked
  asked_then h g = rw (sym e, h) g
