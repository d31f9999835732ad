-- A line of one thing that has its cause, one that has not, and one that has not and is the last. Assumes nothing.
use mathlib.Core.Path.{◌≡◌}
use mathlib.Core.Bool.{Bool, true, false}
use mathlib.Core.List.{List, [], ◌∷◌}
use Prim.Native.Nat.{ℕ}
use Rattle.refusals.specs.Outcome.{refused, accepted, Line, line, first_or, judged}

module _ {Value : Type 0} (v : Value) (k : ℕ) (b : Bool) where
  pub caused : (ls : List Line) → b ≡ true → refused k 0 ≡ judged (line k b ∷ ls) v
  unfolding judged first_or
  caused ls e = rw e

  pub clear : (ls : List Line) → b ≡ false → judged ls v ≡ judged (line k b ∷ ls) v
  unfolding judged first_or
  clear ls e = rw e

  pub all_clear : b ≡ false → accepted v ≡ judged (line k b ∷ []) v
  unfolding judged first_or
  all_clear e = rw e
