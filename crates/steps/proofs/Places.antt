-- Single places put into a lent list, one after the other: what is put so far, and then what stood there; or only that each place put holds its value. For any values. Assumes nothing.
use mathlib.Core.Path.{◌≡◌, refl, ap, ◌∙◌}
use mathlib.Core.Bool.{Bool, true, false}
use mathlib.Core.List.{List, [], ◌∷◌, ◌++◌}
use Prim.Native.Nat.{ℕ, ◌+◌, ◌*◌, ◌<◌}
use native.Mathlib.Nat.{mul-one}
use native.Mathlib.Omega.{arith}
use lib.Dec.{eqb}
use lib.ListN.{length, get_or, set, drop, length-set}
use lib.Seq.{get_or-set_same, get_or-set_other}
use borrow.Author.Tests.{eqb-true, eqb-false}
use Rattle.steps.specs.Steps.{pieces, singles}
use Rattle.steps.proofs.Portions.{length_pieces, next_behind}
use Rattle.steps.proofs.Columns.{column_in_room}

module _ {A : Type 0} (f : ℕ → A) where
  pub length_singles : (k : ℕ) → length (singles f k) ≡ k
  length_singles k = length_pieces (λ (i : ℕ). f i ∷ []) 1 (λ (i : ℕ). refl) k ∙ mul-one k

  pub single_at : (n i : ℕ) (d : A) (rest : List A) → i < n → get_or (singles f n ++ rest) i d ≡ f i
  single_at n i d rest h =
      let e : i ≡ i * 1 + 0 = omega arith in
      ap (λ (k : ℕ). get_or (singles f n ++ rest) k d) e ∙ column_in_room (λ (k : ℕ). f k ∷ []) 1 (λ (k : ℕ). refl) n i 0 d rest h (omega arith)

  module _ (room₀ : List A) where
    -- k places are put
    pub record Put (k : ℕ) (room : List A) : Type 0 where
      pub is : room ≡ singles f k ++ drop k room₀
      pub kept : length room ≡ length room₀

    pub none_put : Put 0 room₀
    unfolding pieces
    none_put = record { is = refl; kept = refl }

    pub one_more : (room : List A) (k : ℕ) (v : A) → Put k room → k < length room₀ → v ≡ f k → Put (k + 1) (set room k v)
    one_more room k v p h e = record {
      is = rw (p.is, e) (next_behind (λ (i : ℕ). f i ∷ []) k k (length_singles k) room₀ (omega arith));
      kept = length-set room k v ∙ p.kept;
    }

    pub all_put : (room : List A) (k n : ℕ) → Put k room → k ≡ n → room ≡ singles f n ++ drop n room₀
    all_put room k n p e = p.is ∙ ap (λ (m : ℕ). singles f m ++ drop m room₀) e

-- ---- only that each place holds its value: a list that is filled up to k, and then at k
pub filled_more : {A : Type 0} (xs : List A) (k : ℕ) (v d : A) (f : ℕ → A) → k < length xs → v ≡ f k → ((j : ℕ) → j < k → get_or xs j d ≡ f j)
    → (j : ℕ) → j < k + 1 → get_or (set xs k v) j d ≡ f j
filled_more {A} xs k v d f h e before j b = go (eqb j k) refl
  where
    go : (same : Bool) → eqb j k ≡ same → get_or (set xs k v) j d ≡ f j
    go true s =
        let at : j ≡ k = eqb-true j k s in
        rw at (get_or-set_same xs k v d h ∙ e)
    go false s = get_or-set_other xs k j v d (eqb-false j k s) ∙ before j (omega (arith, eqb-false j k s))
