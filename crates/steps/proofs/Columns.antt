-- Columns of pieces of one width: place j of piece i, for any pieces and for what the steps of a state write. Assumes nothing.
use mathlib.Core.Path.{◌≡◌, ◌∙◌}
use mathlib.Core.Logic.{inl, inr}
use mathlib.Core.List.{List, ◌++◌}
use Prim.Native.Nat.{ℕ, zero, suc, ◌+◌, ◌*◌, ◌<◌}
use native.Mathlib.Nat.{eq-or-lt_of_le, le_of_suc-le-suc, mul-le-mul_right, suc-mul}
use native.Mathlib.Omega.{arith}
use lib.ListN.{length, get_or, get_or-append}
use lib.Seq.{get_or-append-add}
use Rattle.steps.specs.Steps.{pieces, stepped, written}
use Rattle.steps.proofs.Portions.{length_pieces}

-- the place j of piece i lies before piece n
before : (i j n w : ℕ) → i < n → j < w → i * w + j < n * w
before i j n w h k = omega (arith, mul-le-mul_right w h, suc-mul i w)

module _ {A : Type 0} (piece : ℕ → List A) (w : ℕ) (wide : (i : ℕ) → length (piece i) ≡ w) where
  pub piece_column : (n i j : ℕ) (d : A) → i < n → j < w → get_or (pieces piece n) (i * w + j) d ≡ get_or (piece i) j d
  unfolding pieces
  piece_column zero i j d h k = absurd (omega arith)
  piece_column (suc n) i j d h k =
      let e : length (pieces piece n) ≡ n * w = length_pieces piece w wide n in
      elim (eq-or-lt_of_le (le_of_suc-le-suc h)) [
        | inl q ↦ rw (q, ← e) (get_or-append-add (pieces piece n) (piece n) j d)
        | inr l ↦ get_or-append (pieces piece n) (piece n) d (i * w + j) (rw e (before i j n w l k)) ∙ piece_column n i j d l k
      ]

  -- and in a room, whatever lies behind them
  pub column_in_room : (n i j : ℕ) (d : A) (rest : List A) → i < n → j < w → get_or (pieces piece n ++ rest) (i * w + j) d ≡ get_or (piece i) j d
  column_in_room n i j d rest h k = get_or-append (pieces piece n) rest d (i * w + j) (rw (length_pieces piece w wide n) (before i j n w h k)) ∙ piece_column n i j d h k

module _ {S A : Type 0} (next : S → S) (writes : S → List A) (w : ℕ) (wide : (s : S) → length (writes s) ≡ w) where
  pub column : (n : ℕ) (s : S) (i j : ℕ) (d : A) → i < n → j < w → get_or (written next writes n s) (i * w + j) d ≡ get_or (writes (stepped next i s)) j d
  column n s = piece_column (λ (i : ℕ). writes (stepped next i s)) w (λ (i : ℕ). wide (stepped next i s)) n
