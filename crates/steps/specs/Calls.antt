-- Calls one after the other, each handed the state that the one before handed back: what they file, and the state that the last one hands back. For any state and any call; a draw into a
-- lent room is one. Definitions only. Assumes nothing.
use Rattle.std.specs.Prelude.{cond, List, [], ◌∷◌, ◌++◌, ℕ, suc, ltb, length}

-- what one call files, and the state that it hands back
module _ {S C A : Type 0} (files : S → C → List A) (hands_back : S → C → S) where
  unfoldable pub filed : S → List C → List A
  filed s [] = []
  filed s (c ∷ calls) = files s c ++ filed (hands_back s c) calls

module _ {S C : Type 0} (hands_back : S → C → S) where
  unfoldable pub left : S → List C → S
  left s [] = s
  left s (c ∷ calls) = left (hands_back s c) calls

-- how many of the rooms hold a piece of w places
unfoldable pub roomy : {A : Type 0} → ℕ → List (List A) → ℕ
roomy w [] = 0
roomy w (room ∷ rooms) = cond (ltb (length room) w) (roomy w rooms) (suc (roomy w rooms))
