-- Stores of lists at places of a room, for any values: behind a list that stands at its front, one list behind another as one list, lists apart in any order, and what
-- stands where a list was stored. Assumes nothing.
use mathlib.Core.Path.{◌≡◌, refl, sym, ap, ◌∙◌}
use mathlib.Core.List.{List, [], ◌∷◌, ◌++◌, append_assoc, append-nil}
use Prim.Native.Nat.{ℕ, suc, ◌+◌, ◌-◌, ◌≤◌, ◌<◌}
use native.Mathlib.Nat.{add-zero}
use native.Mathlib.Omega.{arith}
use mathlib.Core.Logic.{◌⊎◌, inl, inr}
use lib.ListN.{length, get_or, take, drop, set, length-append, length-drop, take-append-drop, drop_of_length-le, get_or-append}
use lib.Seq.{sets, sets-eq, set_comm, length-sets, length-take-le, take-append_seam, drop-append-add, drop-drop, take_at, drop_at, take_all, get_or-append-add, get_or-set_other}

-- stores behind a list that stands at the front of a room
pub behind : {A : Type 0} (p vs o : List A) → length p + length vs ≤ length o
    → sets (p ++ drop (length p) o) (length p) vs ≡ (p ++ vs) ++ drop (length p + length vs) o
behind p vs o h =
    let b : length p + length vs ≤ length (p ++ drop (length p) o) = simp (length-append, length-drop) (omega arith) in
    sets-eq vs (p ++ drop (length p) o) (length p) b ∙ simp (take-append_seam, drop-append-add, drop-drop, append_assoc)

-- a list laid into the rest of a room, behind a list that stands at its front
pub beyond : {A : Type 0} (p r o o₁ : List A) (i j : ℕ) → length p ≡ i → i + j ≤ length o → o₁ ≡ p ++ drop i o
    → take i o₁ ++ ((r ++ drop j (take (length o₁ - i) (drop i o₁))) ++ drop (length o₁ - i) (drop i o₁)) ≡ (p ++ r) ++ drop (i + j) o
beyond p r o o₁ i j h b e =
    let t : take i o₁ ≡ p = rw e (take_at p (drop i o) i h) in
    let d : drop i o₁ ≡ drop i o = rw e (drop_at p (drop i o) i h) in
    let n : length o₁ ≡ length o = rw e (simp (length-append, length-drop) (omega arith)) in
    let w : length (drop i o) ≤ length o₁ - i = simp length-drop (omega arith) in
    rw (t, d, take_all (length o₁ - i) (drop i o) w, drop_of_length-le (drop i o) w, append-nil, drop-drop j i o, append_assoc)

module _ {A : Type 0} where
  pub sets_append : (xs ys l : List A) (i : ℕ) → sets (sets l i xs) (i + length xs) ys ≡ sets l i (xs ++ ys)
  sets_append [] ys l i = ap (λ (k : ℕ). sets l k ys) (add-zero i)
  sets_append (x ∷ xs) ys l i =
      let e : i + suc (length xs) ≡ suc i + length xs = omega arith in
      ap (λ (k : ℕ). sets (sets (set l i x) (suc i) xs) k ys) e ∙ sets_append xs ys (set l i x) (suc i)

  set_sets : (xs l : List A) (p i : ℕ) (a : A) → p + length xs ≤ i → set (sets l p xs) i a ≡ sets (set l i a) p xs
  set_sets [] l p i a h = refl
  set_sets (x ∷ xs) l p i a h =
      let h' : suc p + length xs ≤ i = omega arith in
      set_sets xs (set l p x) (suc p) i a h' ∙ ap (λ (o : List A). sets o (suc p) xs) (set_comm l p i x a (λ (e : p ≡ i). apart p (length xs) i h e))
    where
      apart : (p n i : ℕ) → p + suc n ≤ i → p ≡ i → ⊥
      apart p n i h e = omega arith

  pub sets_apart : (ys xs l : List A) (p q : ℕ) → p + length xs ≤ q → sets (sets l p xs) q ys ≡ sets (sets l q ys) p xs
  sets_apart [] xs l p q h = refl
  sets_apart (y ∷ ys) xs l p q h =
      let h' : p + length xs ≤ suc q = omega arith in
      ap (λ (o : List A). sets o (suc q) ys) (set_sets xs l p q y h) ∙ sets_apart ys xs (set l q y) p (suc q) h'

  -- a list behind each of two that are apart
  pub behind_both : (xs ys us vs l : List A) (p q n : ℕ) → length xs ≡ n → length ys ≡ n → p + n + length us ≤ q
      → sets (sets (sets (sets l p xs) q ys) (p + n) us) (q + n) vs ≡ sets (sets l p (xs ++ us)) q (ys ++ vs)
  behind_both xs ys us vs l p q n ex ey h =
      let f : sets (sets (sets l p xs) (p + n) us) q ys ≡ sets (sets (sets l p xs) q ys) (p + n) us = sets_apart ys us (sets l p xs) (p + n) q h in
      let g : sets (sets l p xs) (p + n) us ≡ sets l p (xs ++ us) = ap (λ (k : ℕ). sets (sets l p xs) (p + k) us) (sym ex) ∙ sets_append xs us l p in
      ap (λ (z : List A). sets z (q + n) vs) (sym f ∙ ap (λ (z : List A). sets z q ys) g)
      ∙ ap (λ (k : ℕ). sets (sets (sets l p (xs ++ us)) q ys) (q + k) vs) (sym ey) ∙ sets_append ys vs (sets l p (xs ++ us)) q

  -- a list laid into what follows a place, as a part of the whole
  pub laid_from : (vs l : List A) (i n : ℕ) → length vs ≡ n → i + n ≤ length l
      → take i l ++ ((vs ++ drop n (take (length l - i) (drop i l))) ++ drop (length l - i) (drop i l)) ≡ sets l i vs
  laid_from vs l i n e h =
      let g : i + length vs ≤ length l = rw e h in
      let b = beyond (take i l) vs l l i n (length-take-le i l (omega arith)) h (sym (take-append-drop i l)) in
      b ∙ ap (λ (k : ℕ). take i l ++ vs ++ drop (i + k) l) (sym e) ∙ sym (sets-eq vs l i g)

  -- ---- what stands where a list was stored, and elsewhere; and a list stored over another
  pub get_d_sets : (vs l : List A) (i j : ℕ) (d : A) → i + length vs ≤ length l → j < length vs → get_or (sets l i vs) (i + j) d ≡ get_or vs j d
  get_d_sets vs l i j d h k =
      let n : length (take i l) ≡ i = length-take-le i l (omega arith) in
      let m : i + j < length (take i l ++ vs) = rw (length-append (take i l) vs) (omega arith) in
      ap (λ (o : List A). get_or o (i + j) d) (sets-eq vs l i h)
      ∙ get_or-append (take i l ++ vs) (drop (i + length vs) l) d (i + j) m
      ∙ ap (λ (p : ℕ). get_or (take i l ++ vs) (p + j) d) (sym n)
      ∙ get_or-append-add (take i l) vs j d

  pub get_or_sets_other : (vs l : List A) (i k : ℕ) (d : A) → (k < i) ⊎ (i + length vs ≤ k) → get_or (sets l i vs) k d ≡ get_or l k d
  get_or_sets_other [] l i k d h = refl
  get_or_sets_other (v ∷ vs) l i k d h =
      get_or_sets_other vs (set l i v) (suc i) k d (later h) ∙ get_or-set_other l i k v d (λ (e : k ≡ i). apart h e)
    where
      later : (k < i) ⊎ (i + suc (length vs) ≤ k) → (k < suc i) ⊎ (suc i + length vs ≤ k)
      later (inl b) = inl (omega arith)
      later (inr b) = inr (omega arith)

      apart : (k < i) ⊎ (i + suc (length vs) ≤ k) → k ≡ i → ⊥
      apart (inl b) e = omega arith
      apart (inr b) e = omega arith

  pub sets_over : (xs ys l : List A) (i : ℕ) → length xs ≡ length ys → i + length xs ≤ length l → sets (sets l i xs) i ys ≡ sets l i ys
  sets_over xs ys l i e h =
      let rest = drop (i + length xs) l in
      let n : length (take i l) ≡ i = length-take-le i l (omega arith) in
      let m : length (take i l ++ xs) ≡ i + length ys = length-append (take i l) xs ∙ omega arith in
      let s : sets l i xs ≡ take i l ++ xs ++ rest = sets-eq xs l i h in
      let t : take i (sets l i xs) ≡ take i l = ap (take i) (s ∙ append_assoc (take i l) xs rest) ∙ take_at (take i l) (xs ++ rest) i n in
      let u : drop (i + length ys) (sets l i xs) ≡ rest = ap (drop (i + length ys)) s ∙ drop_at (take i l ++ xs) rest (i + length ys) m in
      let k : i + length ys ≤ length l = omega arith in
      sets-eq ys (sets l i xs) i (rw (length-sets l i xs) k) ∙ rw (t, u, e) (sym (sets-eq ys l i k))
