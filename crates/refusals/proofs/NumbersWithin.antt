-- Lines whose numbers lie between two bounds refuse with a number between them. Assumes nothing.
use mathlib.Core.Logic.{inl, inr}
use mathlib.Core.Bool.{Bool, true, ◌&&◌}
use mathlib.Core.List.{List, [], ◌∷◌}
use Prim.Native.Nat.{ℕ, ◌<◌}
use native.Mathlib.Omega.{arith}
use lib.Dec.{T, ltb, ltb→lt}
use lib.Ieee.Fits.{and_l, and_r}
use Rattle.refusals.specs.Outcome.{Line, Applies}

unfoldable pub between : ℕ → ℕ → List Line → Bool
between low high [] = true
between low high (l ∷ ls) = (ltb low l.number && ltb l.number high) && between low high ls

pub within : (low high : ℕ) (ls : List Line) (k p : ℕ) → T (between low high ls) → Applies ls k p → (low < k) × (k < high)
unfolding Applies between
within low high [] k p t a = absurd a
within low high (l ∷ ls) k p t a =
    let here = and_l (ltb low l.number && ltb l.number high) (between low high ls) t in
    let above_low : low < l.number = ltb→lt low l.number (and_l (ltb low l.number) (ltb l.number high) here) in
    let below_high : l.number < high = ltb→lt l.number high (and_r (ltb low l.number) (ltb l.number high) here) in
    elim a [
      | inl e ↦ (let n = e.0 in (omega arith, omega arith))
      | inr r ↦ within low high ls k p (and_r (ltb low l.number && ltb l.number high) (between low high ls) t) r
    ]
