-- A code outside its set waits its turn: what is then refused is what document 01's rule gives for the other lines with line 11 after them. Assumes nothing.
use mathlib.Core.Path.{◌≡◌, refl}
use mathlib.Core.Bool.{Bool, true, false}
use mathlib.Core.List.{List, [], ◌∷◌, ◌++◌}
use Prim.Native.Nat.{ℕ, suc}
use Rattle.refusals.specs.Outcome.{Outcome, refused, accepted, Line, line, first_or, judged, and_then}
use Rattle.senyolanda.specs.Told.{coded}

-- 11, whatever was accepted
eleven : {Value : Type 0} → Outcome Unit → Outcome Value
eleven o = and_then o (λ _. refused 11 0)

module _ {Value : Type 0} where
  by_places : (k p : ℕ) (causes : List Bool) (rest : Outcome Unit) (other : Outcome Value) → eleven rest ≡ other
      → eleven (first_or k p causes rest) ≡ first_or k p causes other
  unfolding first_or eleven
  by_places k p [] rest other e = e
  by_places k p (true ∷ bs) rest other e = refl
  by_places k p (false ∷ bs) rest other e = by_places k (suc p) bs rest other e

  in_turn : (v : Value) (lines : List Line) → eleven (judged lines tt) ≡ judged (lines ++ line 11 true ∷ []) v
  unfolding judged first_or eleven
  in_turn v [] = refl
  in_turn v (l ∷ ls) = by_places l.number 0 l.causes (judged ls tt) _ (in_turn v ls)

  pub waits : (v : Value) (lines : List Line) → coded true (judged lines tt) v ≡ judged (lines ++ line 11 true ∷ []) v
  unfolding eleven
  waits v lines = in_turn v lines

  pub known_code : (v : Value) (others : Outcome Unit) → coded false others v ≡ accepted v
  known_code v others = refl
