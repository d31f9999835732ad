-- Refusals whose place is given as a u32 holds it, for any lines whose numbers rise: number k is given at p exactly when it is the lowest at some q that p is, or that no u32 holds where p is
-- 4,294,967,295. Where a u32 holds every place that the lines may refuse at, the outcome given is the lines' own. Assumes nothing.
use mathlib.Core.Path.{◌≡◌, refl, sym, ap, ◌∙◌}
use mathlib.Core.Logic.{◌↔◌}
use mathlib.Core.List.{List}
use Prim.Native.Nat.{ℕ, ◌≤◌, min}
use native.Mathlib.Omega.{arith}
use lib.Dec.{T}
use Rattle.numbers.specs.Whole.{largest}
use Rattle.refusals.specs.Outcome.{Outcome, refused, accepted, Line, judged, Lowest, ExactlyWhen, rising}
use Rattle.refusals.specs.Places.{placed}
use Rattle.refusals.proofs.Judging.{exactly}

as_it_is : {Value : Type 0} (o : Outcome Value) → ((k p : ℕ) → o ≡ refused k p → p ≤ largest) → placed o ≡ o
unfolding placed
as_it_is (refused k p) held =
    let h : p ≤ largest = held k p refl in
    let m : min p largest ≡ p = omega arith in
    ap (refused k) m
as_it_is (accepted v) held = refl

module _ {Value : Type 0} (v : Value) (ls : List Line) (t : T (rising ls)) where
  pub placed_exactly : (k p : ℕ) → (placed (judged ls v) ≡ refused k p) ↔ ((q : ℕ) × Lowest ls k q × (p ≡ min q largest))
  unfolding placed
  placed_exactly k p = (there (judged ls v) refl, λ w. ap placed ((exactly v ls t k w.0).1 w.1) ∙ ap (refused k) (sym w.2))
    where
      there : (o : Outcome Value) → judged ls v ≡ o → placed o ≡ refused k p → (q : ℕ) × Lowest ls k q × (p ≡ min q largest)
      there (refused j q) e h =
          let is_k : j ≡ k = cc in
          let is_p : p ≡ min q largest = cc in
          (q, (exactly v ls t k q).0 (e ∙ ap (λ (n : ℕ). refused n q) is_k), is_p)
      there (accepted u) e h = let z : ◌≡◌ {A = ℕ} 0 1 = cc in absurd (omega arith)

  module _ (held : (k q : ℕ) → Lowest ls k q → q ≤ largest) where
    pub given_as_it_is : placed (judged ls v) ≡ judged ls v
    given_as_it_is = as_it_is (judged ls v) (λ k q e. held k q ((exactly v ls t k q).0 e))

    pub held_exactly : ExactlyWhen ls (placed (judged ls v))
    held_exactly k p = rw given_as_it_is (exactly v ls t k p)
