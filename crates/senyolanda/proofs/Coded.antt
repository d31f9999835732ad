-- A value that is read with a code: a code outside its set waits for what else is refused. Assumes nothing.
use mathlib.Core.Path.{◌≡◌, refl, ap, sym, ◌∙◌}
use mathlib.Core.Bool.{Bool, true, false}
use mathlib.Core.List.{[], ◌∷◌}
use Prim.Native.Nat.{ℕ}
use Rattle.std.specs.declared.result.Result.{Result}
use Rattle.std.specs.declared.result.Result.TheVariants.{Ok, Err}
use Rattle.std.specs.Result.{MatchResult, result_and}
use Rattle.refusals.specs.declared.Refusal.{Refusal}
use Rattle.refusals.specs.Outcome.{Outcome, refused, accepted, line, first_or, judged}
use Rattle.refusals.specs.Answers.{outcome}
use Rattle.senyolanda.specs.Told.{coded}

-- what a code stands for, where one outside its set waits for the others
pub waits : {Value : Type 0} (known given : Result Value Refusal) (bad : Bool) (others : Outcome Unit) (v : Value) {P : Value → Type 0} {Q : Refusal → Type 0}
    → outcome known ≡ judged (line 11 bad ∷ []) v → MatchResult known P Q → ((x : Value) → P x → given ≡ Ok x)
    → ((r : Refusal) → Q r → (other : Result Unit Refusal) × (outcome other ≡ others) × (given ≡ result_and other (Err r)))
    → outcome given ≡ coded bad others v
unfolding judged first_or
waits (Ok x) given true others v is m ok err = cc
waits (Ok x) given false others v is m ok err = ap outcome (ok x m) ∙ is
waits (Err r) given false others v is m ok err = cc
waits (Err r) given true others v is m ok err =
    let w = err r m in
    go w.0 w.1 w.2
  where
    go : (other : Result Unit Refusal) → outcome other ≡ others → given ≡ result_and other (Err r) → outcome given ≡ coded true others v
    go (Ok u) e h = rw (h, sym e) is
    go (Err q) e h = rw (h, sym e)
