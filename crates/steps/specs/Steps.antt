-- Pieces one behind the other; a state that steps on, and what each step writes; and how pieces lie in a lent room: for any state, any step and any width. Definitions only. Assumes nothing.
use Rattle.std.specs.Prelude.{◌≡◌, ℕ, zero, suc, ◌*◌, ◌/◌, min, List, [], ◌∷◌, ◌++◌, drop}
use Rattle.std.proofs.lemmas.List.Edits.{sets}

-- the first k pieces, from the piece 0, one behind the other
unfoldable pub pieces : {A : Type 0} → (ℕ → List A) → ℕ → List A
pieces piece zero = []
pieces piece (suc k) = pieces piece k ++ piece k

-- pieces of one place each
abbrev pub singles : {A : Type 0} → (ℕ → A) → ℕ → List A
singles value k = pieces (λ (i : ℕ). value i ∷ []) k

-- the state after k steps
unfoldable pub stepped : {S : Type 0} → (S → S) → ℕ → S → S
stepped next zero s = s
stepped next (suc k) s = next (stepped next k s)

-- what k steps write: a piece for each state that one of them starts from
abbrev pub written : {S A : Type 0} → (S → S) → (S → List A) → ℕ → S → List A
written {S} next writes k s = pieces (λ (i : ℕ). writes (stepped next i s)) k

-- how many of those that are due a room holds, at w places each
abbrev pub fitting : ℕ → ℕ → ℕ → ℕ
fitting due room w = min due (room / w)

-- a room with k pieces of w places laid from its start: "other places stay"
abbrev pub laid : {A : Type 0} → ℕ → ℕ → List A → List A → List A
laid w k laying room = laying ++ drop (k * w) room

-- n steps lay what they write from the start of a room: the state after them, and what the room holds then
pub record Lays {S A : Type 0} (next : S → S) (writes : S → List A) (w n : ℕ) (s : S) (room : List A) (s' : S) (room' : List A) : Type 0 where
  pub state : s' ≡ stepped next n s
  pub stand : room' ≡ laid w n (written next writes n s) room

-- n steps of each of two states, from two places of a room
pub record LaysBoth {S A : Type 0} (next : S → S) (writes : S → List A) (n a b : ℕ) (x y : S) (room : List A) (x' y' : S) (room' : List A) : Type 0 where
  pub x_state : x' ≡ stepped next n x
  pub y_state : y' ≡ stepped next n y
  pub stand : room' ≡ sets (sets room a (written next writes n x)) b (written next writes n y)
