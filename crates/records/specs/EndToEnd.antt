-- Records of one size lent end to end: how many there are, and which is the i-th. Definitions only. Assumes nothing.
use Rattle.std.specs.Prelude.{ℕ, zero, suc, ◌*◌, ◌/◌, List, [], ◌∷◌, length, take, drop}

-- how many records the bytes hold
abbrev pub record_count : ℕ → List ℕ → ℕ
record_count size bytes = length bytes / size

-- the record i of them, from 0
unfoldable pub record_at : ℕ → List ℕ → ℕ → List ℕ
record_at size bytes i = take size (drop (i * size) bytes)

-- what is said of each of k in order, from 0
unfoldable pub of_each : {A : Type 0} → (ℕ → A) → ℕ → List A
of_each f zero = []
of_each f (suc k) = f zero ∷ of_each (λ (i : ℕ). f (suc i)) k
