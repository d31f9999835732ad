-- The lines of a swap over its curve, whatever line 7 and line 8 go by. Assumes nothing.
use mathlib.Core.Path.{◌≡◌, ap, ◌∙◌}
use mathlib.Core.Bool.{Bool}
use mathlib.Core.List.{List, [], ◌∷◌, ◌++◌}
use lib.Ieee.{Float}
use Rattle.refusals.specs.Outcome.{Outcome, Line, line, judged}
use Rattle.refusals.specs.Table.{bad_amount, bad_number}
use Rattle.curves.specs.Curve.{curve_lines}

module _ (notional rate : Float) (tenors zeros : List Float) where
  abbrev priced : Bool → Bool → List Line
  priced line7 line8 = line 1 (bad_amount notional) ∷ curve_lines tenors zeros ++ line 7 line7 ∷ line 8 line8 ∷ line 9 (bad_number rate) ∷ []

  -- their causes in other words
  pub in_other_words : {a b c d : Bool} {o : Outcome Unit} → a ≡ b → c ≡ d → o ≡ judged (priced a c) tt → o ≡ judged (priced b d) tt
  in_other_words {a} {b} {c} {d} e h k = k ∙ ap (λ (x : Bool). judged (priced x c) tt) e ∙ ap (λ (x : Bool). judged (priced b x) tt) h
