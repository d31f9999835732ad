-- Sums of products over lists gone through side by side: their terms are carried on from those before, by a fold or turn by turn. Assumes nothing.
use Rattle.std.proofs.Common.{◌≡◌, ℕ, suc, ◌+◌, ◌≤◌, List, [], ◌∷◌, length, fold, sym, ap, ◌∙◌, arith}
use Rattle.std.specs.List.{zip}
use lib.Ieee.{Float, binary64, add, mul}
use Rattle.numbers.specs.Sums.{added_up}
use Rattle.curves.specs.Segments.{knot}
use Rattle.curves.proofs.Adding.{Carried, nothing_yet_lem, one_more, further}

abbrev pub with_product : Float → Float × Float → Float
with_product sum p = add binary64 sum (mul binary64 p.0 p.1)

abbrev product : List Float → List Float → ℕ → Float
product xs ys j = mul binary64 (knot xs j) (knot ys j)

pub products_carried : (xs ys : List Float) (before : Float) → length xs ≤ length ys → Carried before (fold with_product before (zip xs ys)) (product xs ys) (length xs)
products_carried [] ys before h = nothing_yet_lem before (product [] ys)
products_carried (x ∷ xs) [] before h = absurd (omega arith)
products_carried (x ∷ xs) (y ∷ ys) before h = λ term k b t.
    let here : k + 0 ≡ k = omega arith in
    let later : (i : ℕ) → k + suc i ≡ k + 1 + i = λ i. omega arith in
    products_carried xs ys (with_product before (x, y)) (omega arith) term (k + 1) (one_more term k before _ b (t 0 (omega arith) ∙ ap term here))
    (λ i l. t (suc i) (omega arith) ∙ ap term (later i)) ∙ ap (added_up term) (sym (later (length xs)))

-- ---- one term more in a loop that has yielded n items, and now m
pub carried_more : (before sum v : Float) (t : ℕ → Float) (n m : ℕ) → v ≡ t n → m ≡ n + 1 → Carried before sum t n → Carried before (add binary64 sum v) t m
carried_more before sum v t n m e more c = rw (e, more) (further before t sum n c)
