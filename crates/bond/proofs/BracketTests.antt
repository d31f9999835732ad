-- Which bracket the search starts in, as the code tests it: the first unless both its ends err to one side, then the second unless its do too,
-- and where both do, line 12. Assumes nothing.
use mathlib.Core.Path.{◌≡◌, sym, ◌∙◌}
use mathlib.Core.Bool.{Bool, true, false}
use mathlib.Core.List.{[], ◌∷◌}
use lib.Ieee.{Float}
use Rattle.refusals.specs.declared.Refusal.{Refusal}
use Rattle.refusals.specs.Outcome.{Outcome, refused, accepted, line, first_or, judged}
use Rattle.refusals.specs.Table.{one_sided}
use Rattle.refusals.proofs.Verdicts.{refused_as}
use Rattle.bond.specs.declared.Bond.{Bond}
use Rattle.bond.specs.declared.brent.Search.{Search}
use Rattle.bond.specs.Yield.{low, high, wide_low, wide_high, not_in, no_bracket, start_in, start, searched, yield_of}
use Rattle.refusals.specs.Answers.{number}

-- of the end errors of a search that starts in a bracket
abbrev above : Search → Bool
above s = one_sided s.fa s.fb

above_is : (b : Bond) (market x y : Float) (s : Search) (t : Bool) → s ≡ start_in b market x y → t ≡ above s → t ≡ not_in b market x y
unfolding not_in start_in
above_is b market x y s t e h = h ∙ rw e

module _ (b : Bond) (market : Float) where
  abbrev asked : Outcome Float
  asked = judged (line 12 (no_bracket b market) ∷ []) (yield_of b market)

  pub in_narrow : (s : Search) (t : Bool) (y : Float) → s ≡ start_in b market low high → t ≡ above s → t ≡ false → y ≡ searched b market 200 s → accepted y ≡ asked
  unfolding judged first_or no_bracket yield_of start
  in_narrow s t y e h f g =
      let one : not_in b market low high ≡ false = sym (above_is b market low high s t e h) ∙ f in
      rw (one, g, e)

  module _ (s₁ s₂ : Search) (t₁ t₂ : Bool) (e₁ : s₁ ≡ start_in b market low high) (h₁ : t₁ ≡ above s₁) (f₁ : t₁ ≡ true)
      (e₂ : s₂ ≡ start_in b market wide_low wide_high) (h₂ : t₂ ≡ above s₂) where
    pub in_wide : (y : Float) → t₂ ≡ false → y ≡ searched b market 200 s₂ → accepted y ≡ asked
    unfolding judged first_or no_bracket yield_of start
    in_wide y f₂ g =
        let one : not_in b market low high ≡ true = sym (above_is b market low high s₁ t₁ e₁ h₁) ∙ f₁ in
        let two : not_in b market wide_low wide_high ≡ false = sym (above_is b market wide_low wide_high s₂ t₂ e₂ h₂) ∙ f₂ in
        rw (one, two, g, e₂)

    pub in_neither : (r : Refusal) → t₂ ≡ true → ((number r.cause) ≡ 12) × (r.place ≡ 0) → refused (number r.cause) r.place ≡ asked
    unfolding judged first_or no_bracket
    in_neither r f₂ h =
        let one : not_in b market low high ≡ true = sym (above_is b market low high s₁ t₁ e₁ h₁) ∙ f₁ in
        let two : not_in b market wide_low wide_high ≡ true = sym (above_is b market wide_low wide_high s₂ t₂ e₂ h₂) ∙ f₂ in
        refused_as 12 r asked h (rw (one, two))
