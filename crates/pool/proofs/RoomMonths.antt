-- The months that lie in a room: those that were laid there one behind the other, and what a walk over them leaves. Assumes nothing.
use mathlib.Core.Path.{◌≡◌, refl, sym, ap, ◌∙◌}
use mathlib.Core.List.{List, ◌++◌}
use Prim.Native.Nat.{ℕ, zero, suc, ◌+◌, ◌*◌, ◌<◌, ◌≤◌}
use native.Mathlib.Numerals.{add-one}
use native.Mathlib.Omega.{arith}
use lib.ListN.{length, get_or, drop}
use lib.Seq.{sets, get_or-append-add, get_or-drop}
use lib.Ieee.{Float, nan}
use Rattle.steps.specs.Steps.{pieces, laid}
use Rattle.steps.proofs.Portions.{length_pieces, next_laid}
use Rattle.steps.proofs.Columns.{column_in_room}
use Rattle.pool.specs.declared.months.Month.{Month}
use Rattle.pool.specs.Flows.{month_width, places}
use Rattle.pool.specs.inner.Walk.{month_from, changed, walked}
use Rattle.pool.proofs.Walks.{same_month}

-- ---- the months of g, from the month 0
module _ (g : ℕ → Month) where
  abbrev pub months_of : ℕ → List Float
  months_of n = pieces (λ (i : ℕ). places (g i)) n

  pub length_months : (n : ℕ) → length (months_of n) ≡ n * month_width
  length_months = length_pieces (λ (i : ℕ). places (g i)) month_width (λ (i : ℕ). refl)

  pub month_lies : (n i : ℕ) (rest : List Float) → i < n → month_from (months_of n ++ rest) (i * month_width) ≡ g i
  month_lies n i rest h =
      let e : i * month_width ≡ i * month_width + 0 = omega arith in
      let a : get_or (months_of n ++ rest) (i * month_width) nan ≡ (g i).principal = ap (λ (k : ℕ). get_or (months_of n ++ rest) k nan) e ∙ place 0 (omega arith) in
      let b : get_or (months_of n ++ rest) (i * month_width + 1) nan ≡ (g i).interest = place 1 (omega arith) in
      let c : get_or (months_of n ++ rest) (i * month_width + 2) nan ≡ (g i).prepayment = place 2 (omega arith) in
      rw (a, b, c)
    where
      place : (j : ℕ) → j < month_width → get_or (months_of n ++ rest) (i * month_width + j) nan ≡ get_or (places (g i)) j nan
      place j = column_in_room (λ (k : ℕ). places (g k)) month_width (λ (k : ℕ). refl) n i j nan rest h

-- ---- a month behind a list that stands at a room's front is the room's own
own_month : (p room : List Float) (at : ℕ) → length p ≡ at → month_from (p ++ drop at room) at ≡ month_from room at
own_month p room at h =
    let e : at ≡ at + 0 = omega arith in
    let a : get_or (p ++ drop at room) at nan ≡ get_or room at nan = ap (λ (k : ℕ). get_or (p ++ drop at room) k nan) e ∙ place 0 ∙ ap (λ (k : ℕ). get_or room k nan) (sym e) in
    rw (a, place 1, place 2)
  where
    place : (j : ℕ) → get_or (p ++ drop at room) (at + j) nan ≡ get_or room (at + j) nan
    place j = rw (← h) (get_or-append-add p (drop (length p) room) j nan ∙ get_or-drop (length p) room j nan)

-- ---- walks
module _ (change : ℕ → Month → Month) where
  -- the last turn of a walk
  walked_end : (k n : ℕ) (room : List Float) → walked change k (suc n) room ≡ changed change (k + n) (walked change k n room)
  unfolding walked
  walked_end k zero room =
      let e : k ≡ k + 0 = omega arith in
      ap (λ (i : ℕ). changed change i room) e
  walked_end k (suc n) room =
      let e : suc k + n ≡ k + suc n = omega arith in
      walked_end (suc k) n (changed change k room) ∙ ap (λ (i : ℕ). changed change i (walked change (suc k) n (changed change k room))) e

  from_start : (n : ℕ) (room : List Float) → walked change 0 (suc n) room ≡ changed change n (walked change 0 n room)
  from_start n room =
      let e : 0 + n ≡ n = omega arith in
      walked_end 0 n room ∙ ap (λ (i : ℕ). changed change i (walked change 0 n room)) e

  -- every month of the room, changed
  pub walk_leaves : (n : ℕ) (room : List Float) → n * month_width ≤ length room
      → walked change 0 n room ≡ laid month_width n (months_of (λ (j : ℕ). change j (month_from room (j * month_width))) n) room
  unfolding walked changed pieces
  walk_leaves zero room h = refl
  walk_leaves (suc n) room h =
      let c : ℕ → Month = λ (j : ℕ). change j (month_from room (j * month_width)) in
      let m : month_from (laid month_width n (months_of c n) room) (n * month_width) ≡ month_from room (n * month_width) = own_month (months_of c n) room (n * month_width) (length_months c n) in
      from_start n room ∙ ap (changed change n) (walk_leaves n room (omega arith))
      ∙ ap (λ (x : Month). sets (laid month_width n (months_of c n) room) (n * month_width) (places (change n x))) m
      ∙ next_laid (λ (i : ℕ). places (c i)) month_width (λ (i : ℕ). refl) n room (omega arith)
      ∙ ap (λ (k : ℕ). laid month_width k (months_of c k) room) (add-one n)

  -- months from m on that are not changed need no walk
  pub walk_ends : (m d : ℕ) (room : List Float) → ((k : ℕ) (s : Month) → m ≤ k → change k s ≡ s) → walked change 0 (d + m) room ≡ walked change 0 m room
  unfolding changed
  walk_ends m zero room same =
      let e : 0 + m ≡ m = omega arith in
      ap (λ (i : ℕ). walked change 0 i room) e
  walk_ends m (suc d) room same =
      let e : suc d + m ≡ suc (d + m) = omega arith in
      let w : List Float = walked change 0 (d + m) room in
      ap (λ (i : ℕ). walked change 0 i room) e ∙ from_start (d + m) room
      ∙ ap (λ (x : Month). sets w ((d + m) * month_width) (places x)) (same (d + m) (month_from w ((d + m) * month_width)) (omega arith))
      ∙ same_month w ((d + m) * month_width) ∙ walk_ends m d room same
