-- What stands at a place of a list that is mapped, or whose first places are; beyond its end a list has a NaN. Assumes nothing.
use Rattle.std.proofs.Common.{◌≡◌, ℕ, zero, suc, ◌<◌, List, [], ◌∷◌, ◌++◌, map, length, get_or, take, drop, refl, arith}
use lib.Ieee.{Float, nan}

pub map_at : (f : Float → Float) (i : ℕ) (xs : List Float) → i < length xs → get_or (map f xs) i nan ≡ f (get_or xs i nan)
map_at f i [] h = absurd (omega arith)
map_at f zero (x ∷ xs) h = refl
map_at f (suc i) (x ∷ xs) h = map_at f i xs (omega arith)

-- a room whose first n places are mapped
pub mapped_at : (f : Float → Float) (room : List Float) (n i : ℕ) → i < n → i < length room → get_or (map f (take n room) ++ drop n room) i nan ≡ f (get_or room i nan)
mapped_at f [] n i h k = absurd (omega arith)
mapped_at f (x ∷ room) zero i h k = absurd (omega arith)
mapped_at f (x ∷ room) (suc n) zero h k = refl
mapped_at f (x ∷ room) (suc n) (suc i) h k = mapped_at f room n i (omega arith) (omega arith)
