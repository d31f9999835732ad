-- What the helpers that put text into lent memory promise. Definitions only. Assumes nothing.
use Rattle.std.specs.Prelude.{◌≡◌, List, [], ◌∷◌, ◌++◌, ℕ, zero, suc, ◌+◌, ◌/◌, ◌%◌, length}
use Rattle.std.proofs.lemmas.List.Edits.{sets}
use Rattle.listing.specs.Digits.{digit}

-- a text stands from a place on, other bytes stay, and what follows has its place behind it
pub record Put (text : List ℕ) (at : ℕ) (before : List ℕ) (next : ℕ) (after : List ℕ) : Type 0 where
  pub place : next ≡ at + length text
  pub bytes : after ≡ sets before at text

-- exactly k digits of a number in a base, the highest first
unfoldable pub digits_in : ℕ → ℕ → ℕ → List ℕ
digits_in base zero n = []
digits_in base (suc k) n = digits_in base k (n / base) ++ digit (n % base) ∷ []
