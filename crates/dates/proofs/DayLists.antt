-- Lists that follow a rule: with fewer places, and two of one rule. Assumes nothing.
use mathlib.Core.Path.{◌≡◌, refl, sym, ap, ◌∙◌}
use mathlib.Core.List.{List, [], ◌∷◌}
use Prim.Native.Nat.{ℕ, suc, ◌<◌}
use native.Mathlib.Omega.{arith}
use lib.ListN.{length}
use Rattle.dates.specs.DayLists.{Follows}

-- fewer places
pub fewer_follow : (rule : ℕ → ℕ) (xs : List ℕ) {n m : ℕ} → ((i : ℕ) → i < n → i < m) → Follows rule m xs → Follows rule n xs
fewer_follow rule xs within f i h = f i (within i h)

-- two lists that follow one rule to their end
pub same_list : (rule : ℕ → ℕ) (xs ys : List ℕ) → length xs ≡ length ys → Follows rule (length xs) xs → Follows rule (length ys) ys → xs ≡ ys
same_list rule [] [] e f g = refl
same_list rule [] (y ∷ ys) e f g = absurd (omega arith)
same_list rule (x ∷ xs) [] e f g = absurd (omega arith)
same_list rule (x ∷ xs) (y ∷ ys) e f g =
    let rest = same_list (λ (j : ℕ). rule (suc j)) xs ys (omega arith) (λ j h. f (suc j) (omega arith)) (λ j h. g (suc j) (omega arith)) in
    let head : x ≡ y = f 0 (omega arith) ∙ sym (g 0 (omega arith)) in
    ap (λ (u : ℕ). u ∷ xs) head ∙ ap (λ (us : List ℕ). y ∷ us) rest
