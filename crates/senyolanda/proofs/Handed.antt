-- How a call's result and its lent places follow from what was answered, case by case. Assumes nothing.
use mathlib.Core.Path.{◌≡◌, ap, ◌∙◌}
use Prim.Native.Nat.{ℕ}
use Rattle.refusals.specs.Outcome.{Outcome, refused, accepted}
use Rattle.mortgage.specs.declared.Loan.{Loan}
use Rattle.senyolanda.specs.Told.{refusal_result, told}

-- what is said of a loan is said of the loan in hand
pub of_loan : {A : Type 0} (f : Loan → A) {l m : Loan} {x : A} → l ≡ m → x ≡ f l → x ≡ f m
of_loan f e h = h ∙ ap f e

module _ {B C : Type 0} (laid : B → C) (before : C) where
  -- ---- of an answer
  pub refused_so : (o : Outcome B) (k p x : ℕ) → refused k p ≡ o → x ≡ refusal_result k p → ◌≡◌ {A = ℕ × C} (x, before) (told laid o before)
  unfolding told
  refused_so o k p x e h = ap (λ (z : ℕ). (z, before)) h ∙ ap (λ (q : Outcome B). told laid q before) e

  pub accepted_so : (o : Outcome B) (v : B) (y : C) → accepted v ≡ o → y ≡ laid v → ◌≡◌ {A = ℕ × C} (0, y) (told laid o before)
  unfolding told
  accepted_so o v y e h = ap (λ (z : C). (0, z)) h ∙ ap (λ (q : Outcome B). told laid q before) e

  pub told_as : (o q : Outcome B) (y : ℕ × C) → y ≡ told laid o before → o ≡ q → y ≡ told laid q before
  told_as o q y h e = h ∙ ap (λ (x : Outcome B). told laid x before) e
