-- Records of one size lent end to end: the bytes of one as a part of all, its length and its first byte; and what is said of each in order, one more at the end, through a map, and from
-- an index on. Assumes nothing.
use mathlib.Core.Path.{◌≡◌, refl, ap, ◌∙◌}
use mathlib.Core.List.{List, [], ◌∷◌, ◌++◌, map}
use Prim.Native.Nat.{ℕ, zero, suc, ◌+◌, ◌-◌, ◌*◌, ◌<◌, ◌≤◌}
use native.Mathlib.Nat.{add-zero}
use native.Mathlib.Omega.{arith}
use lib.ListN.{length, take, drop, get_or, length-take, length-drop}
use lib.Seq.{get_or-take, get_or-drop}
use Rattle.records.specs.EndToEnd.{record_at, of_each}

-- ---- the record i
module _ (size : ℕ) (bytes : List ℕ) (i : ℕ) where
  pub part_is : take (i * size + size - i * size) (drop (i * size) bytes) ≡ record_at size bytes i
  unfolding record_at
  part_is =
      let e : i * size + size - i * size ≡ size = omega arith in
      ap (λ (k : ℕ). take k (drop (i * size) bytes)) e

  pub record_length : (i + 1) * size ≤ length bytes → length (record_at size bytes i) ≡ size
  unfolding record_at
  record_length h = simp (length-take, length-drop) (omega arith)

  pub first_byte : 0 < size → get_or (record_at size bytes i) 0 0 ≡ get_or bytes (i * size) 0
  unfolding record_at
  first_byte h = get_or-take size (drop (i * size) bytes) 0 0 h ∙ get_or-drop (i * size) bytes 0 0 ∙ ap (λ (k : ℕ). get_or bytes k 0) (add-zero (i * size))

-- ---- of each
-- so many values of f, from an index on
unfoldable pub from : {A : Type 0} → (ℕ → A) → ℕ → ℕ → List A
from f i zero = []
from f i (suc m) = f i ∷ from f (suc i) m

each_from : {A : Type 0} (f g : ℕ → A) (i m : ℕ) → ((j : ℕ) → f j ≡ g (i + j)) → of_each f m ≡ from g i m
unfolding of_each from
each_from f g i zero h = refl
each_from f g i (suc m) h =
    let first : f 0 ≡ g i = h 0 ∙ ap g (omega arith) in
    let rest : of_each (λ (j : ℕ). f (suc j)) m ≡ from g (suc i) m = each_from (λ (j : ℕ). f (suc j)) g (suc i) m (λ j. h (suc j) ∙ ap g (omega arith)) in
    rw (first, rest)

pub from_start : {A : Type 0} (f : ℕ → A) (n : ℕ) → of_each f n ≡ from f 0 n
from_start f n = each_from f f 0 n (λ j. ap f (omega arith))

pub map_each : {A B : Type 0} (h : A → B) (f : ℕ → A) (n : ℕ) → map h (of_each f n) ≡ of_each (λ (i : ℕ). h (f i)) n
unfolding of_each
map_each h f zero = refl
map_each h f (suc n) = ap (λ (l : List _). h (f 0) ∷ l) (map_each h (λ (i : ℕ). f (suc i)) n)

pub one_more : {A : Type 0} (f : ℕ → A) (n : ℕ) → of_each f (suc n) ≡ of_each f n ++ f n ∷ []
unfolding of_each
one_more f zero = refl
one_more f (suc n) = ap (λ (l : List _). f 0 ∷ l) (one_more (λ (i : ℕ). f (suc i)) n)

pub length_each : {A : Type 0} (f : ℕ → A) (n : ℕ) → length (of_each f n) ≡ n
unfolding of_each
length_each f zero = refl
length_each f (suc n) = ap suc (length_each (λ (i : ℕ). f (suc i)) n)
