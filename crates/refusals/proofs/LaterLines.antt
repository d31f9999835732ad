-- Lines that are asked after others: where the first refuse, theirs is the refusal, and where they accept, the later lines decide. Assumes nothing.
use mathlib.Core.Path.{◌≡◌, sym, ap, ◌∙◌}
use mathlib.Core.List.{List, ◌++◌}
use Rattle.refusals.specs.declared.Refusal.{Refusal}
use Rattle.refusals.specs.Outcome.{Outcome, refused, Line, judged}
use Rattle.refusals.proofs.Verdicts.{refused_by, accepted_by, handed_on}
use Rattle.refusals.proofs.Judging.{followed, judged_in_parts}
use Rattle.std.specs.declared.result.Result.TheVariants.{Ok, Err}
use Rattle.std.specs.declared.result.Result.{Result}
use Rattle.std.specs.Result.{IsErrAnd}
use Rattle.refusals.specs.Answers.{number, outcome}

-- as a `match` on the verdict of the first lines has it, in either arm
module _ {Value : Type 0} (ls ms : List Line) (v : Value) (x : Result Unit Refusal) (e : outcome x ≡ judged ls tt) where
  pub refused_first : (r : Refusal) → x ≡ Err r → refused (number r.cause) r.place ≡ judged (ls ++ ms) v
  refused_first r h = ap (λ (o : Outcome Unit). followed o (judged ms v)) (refused_by ls tt x r h e) ∙ sym (judged_in_parts ls ms v)

  -- and as a `?` has it
  pub refused_first_on : {r : Refusal} (y : Result Value Refusal) → IsErrAnd y (λ (s : Refusal). s ≡ r) → x ≡ Err r → outcome y ≡ judged (ls ++ ms) v
  refused_first_on {r} y i h = ap outcome (handed_on y i) ∙ refused_first r h

  pub accepted_first : x ≡ Ok tt → judged ms v ≡ judged (ls ++ ms) v
  accepted_first h = ap (λ (o : Outcome Unit). followed o (judged ms v)) (accepted_by ls tt x h e) ∙ sym (judged_in_parts ls ms v)
