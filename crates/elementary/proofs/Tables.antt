-- A constant table that is equal to the row of a rule's values has the rule at each of its places: one computed equation for the whole table. Assumes nothing.
use mathlib.Core.Path.{◌≡◌, sym, ap, ◌∙◌}
use mathlib.Core.List.{List, [], ◌∷◌}
use Prim.Native.Nat.{ℕ, zero, suc, ◌+◌, ◌<◌}
use native.Mathlib.Nat.{add-zero, zero-add, add-suc, suc-add, le_of_suc-le-suc, not-suc-le-zero}
use lib.ListN.{get_or}
use lib.Ieee.{Float, nan}

-- the values of a rule at the n places from i on
unfoldable pub row : (ℕ → Float) → ℕ → ℕ → List Float
row rule i zero = []
row rule i (suc n) = rule i ∷ row rule (suc i) n

row_at : (rule : ℕ → Float) (i n k : ℕ) → k < n → get_or (row rule i n) k nan ≡ rule (i + k)
unfolding row
row_at rule i zero k h = absurd (not-suc-le-zero h)
row_at rule i (suc n) zero h = ap rule (sym (add-zero i))
row_at rule i (suc n) (suc k) h = row_at rule (suc i) n k (le_of_suc-le-suc h) ∙ ap rule (suc-add i k ∙ sym (add-suc i k))

pub entry : (rule : ℕ → Float) (table : List Float) (n : ℕ) → table ≡ row rule 0 n → (k : ℕ) → k < n → get_or table k nan ≡ rule k
entry rule table n is k h = ap (λ (t : List Float). get_or t k nan) is ∙ row_at rule 0 n k h ∙ ap rule (zero-add k)
