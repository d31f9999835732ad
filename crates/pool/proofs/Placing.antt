-- Refusals whose place a u32 holds: a verdict so placed decides on the answer of any function that asks the same lines. Assumes nothing.
use mathlib.Core.Path.{◌≡◌, refl, sym, ap, ◌∙◌}
use mathlib.Core.Bool.{Bool, true, false}
use mathlib.Core.List.{List, [], ◌∷◌, map}
use Prim.Native.Nat.{ℕ, suc, min}
use native.Mathlib.Omega.{arith}
use Rattle.std.specs.Prelude.{position, Option, Some, None}
use Rattle.numbers.specs.Whole.{largest}
use Rattle.refusals.specs.declared.Refusal.{Refusal}
use Rattle.refusals.specs.Outcome.{Outcome, refused, accepted, Line, first_or, judged}
use Rattle.refusals.proofs.Verdicts.{verdict, refused_alike, accepted_alike}
use Rattle.refusals.proofs.Placing.{refused_at, placed_by_position, accepted_itself}
use Rattle.pool.specs.Loans.{any_of}
use Rattle.refusals.specs.Places.{placed}
use Rattle.refusals.specs.Answers.{number}

-- what line k says of a list of causes, from place p on
abbrev pub by_line : ℕ → ℕ → List Bool → Outcome Unit
by_line k p bs = first_or k p bs (accepted tt)

-- ---- one line: passed, or stopped at
module _ (k : ℕ) where
  pub none_caused : (p : ℕ) (bs : List Bool) → accepted tt ≡ placed (by_line k p bs) → any_of bs ≡ false
  unfolding first_or placed any_of
  none_caused p [] e = refl
  none_caused p (true ∷ bs) e = let z : ◌≡◌ {A = ℕ} 0 1 = cc in absurd (omega arith)
  none_caused p (false ∷ bs) e = none_caused (suc p) bs e

  pub some_caused : (p : ℕ) (bs : List Bool) (n q : ℕ) → refused n q ≡ placed (by_line k p bs) → any_of bs ≡ true
  unfolding first_or placed any_of
  some_caused p [] n q e = let z : ◌≡◌ {A = ℕ} 0 1 = cc in absurd (omega arith)
  some_caused p (true ∷ bs) n q e = refl
  some_caused p (false ∷ bs) n q e = some_caused (suc p) bs n q e

  pub past : {Value : Type 0} (p : ℕ) (bs : List Bool) (rest : Outcome Value) → any_of bs ≡ false → first_or k p bs rest ≡ rest
  unfolding first_or any_of
  past p [] rest e = refl
  past p (true ∷ bs) rest e = let z : ◌≡◌ {A = ℕ} 0 1 = cc in absurd (omega arith)
  past p (false ∷ bs) rest e = past (suc p) bs rest e

  pub stopped : {Value : Type 0} (p : ℕ) (bs : List Bool) (rest : Outcome Value) (n q : ℕ) → refused n q ≡ placed (by_line k p bs)
      → refused n q ≡ placed (first_or k p bs rest)
  unfolding first_or placed
  stopped p [] rest n q e = let z : ◌≡◌ {A = ℕ} 0 1 = cc in absurd (omega arith)
  stopped p (true ∷ bs) rest n q e = cc
  stopped p (false ∷ bs) rest n q e = stopped (suc p) bs rest n q e

-- ---- a line over items, by the first place at which one is bad
module _ {Item : Type 0} (k : ℕ) (bad : Item → Bool) (items : List Item) (o : Option ℕ) (e : o ≡ position bad items) where
  by_position : placed (by_line k 0 (map bad items)) ≡ refused_at k bad o
  unfolding judged
  by_position = rw e (placed_by_position k bad items)

  pub found_at : (i : ℕ) (r : Refusal) → o ≡ Some i → (number r.cause ≡ k) × (r.place ≡ min i largest) → refused (number r.cause) r.place ≡ placed (by_line k 0 (map bad items))
  found_at i r s h = rw (h.0, h.1) (sym (by_position ∙ ap (refused_at k bad) s))

  pub found_none : o ≡ None → accepted tt ≡ placed (by_line k 0 (map bad items))
  found_none s = sym (by_position ∙ ap (refused_at k bad) s)

-- ---- all lines: what they say so placed of no value, they say of any
module _ {Value : Type 0} (ls : List Line) (v : Value) where
  pub refused_so : (k p : ℕ) → refused k p ≡ placed (verdict ls) → placed (judged ls v) ≡ refused k p
  unfolding placed
  refused_so k p e = go (verdict ls) refl e
    where
      go : (o : Outcome Unit) → o ≡ verdict ls → refused k p ≡ placed o → placed (judged ls v) ≡ refused k p
      go (refused j q) d g = rw (sym (refused_alike ls v j q d)) cc
      go (accepted u) d g = let z : ◌≡◌ {A = ℕ} 0 1 = cc in absurd (omega arith)

  pub accepted_so : accepted tt ≡ placed (verdict ls) → placed (judged ls v) ≡ accepted v
  unfolding placed
  accepted_so e = rw (sym (accepted_alike ls v (accepted_itself (verdict ls) e)))

pub ruleset said_so = (refused_so, accepted_so)
