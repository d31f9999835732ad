-- Lists that a loop changes place by place: f of the first j numbers, and g of the others. Assumes nothing.
use mathlib.Core.Path.{◌≡◌, refl, sym, ap, ap₂, ◌∙◌}
use mathlib.Core.List.{List, [], ◌∷◌, ◌++◌, map}
use Prim.Native.Nat.{ℕ, zero, suc, ◌+◌, ◌-◌, ◌≤◌, ◌<◌}
use native.Mathlib.Nat.{zero-add, suc-add, not-suc-le-zero, le_of_suc-le-suc}
use native.Mathlib.Numerals.{add-one}
use native.Mathlib.Omega.{arith}
use borrow.Author.Count.{below_more}
use borrow.Rule.Slice.PartMut.{same_len_mid}
use lib.ListN.{length, length-map, length-set, get_or, set, take, drop, replicate}
use lib.Seq.{get_or-set_same, get_or-set_other}
use lib.Ieee.{Float, nan}

unfoldable pub part_way : (Float → Float) → (Float → Float) → ℕ → List Float → List Float
part_way f g zero xs = map g xs
part_way f g (suc j) [] = []
part_way f g (suc j) (x ∷ xs) = f x ∷ part_way f g j xs

module _ (f g : Float → Float) where
  pub at_start : (xs : List Float) → part_way f g 0 xs ≡ map g xs
  unfolding part_way
  at_start xs = refl

  stored : (j : ℕ) (xs : List Float) → j < length xs → set (part_way f g j xs) j (f (get_or xs j nan)) ≡ part_way f g (suc j) xs
  unfolding part_way
  stored j [] h = absurd (not-suc-le-zero h)
  stored zero (x ∷ xs) h = refl
  stored (suc j) (x ∷ xs) h = ap (λ (r : List Float). f x ∷ r) (stored j xs (le_of_suc-le-suc h))

  -- one more place, at what the loop has there
  pub one_further : (j : ℕ) (xs ys : List Float) (v : Float) → j < length xs → ys ≡ part_way f g j xs → v ≡ f (get_or xs j nan) → set ys j v ≡ part_way f g (j + 1) xs
  one_further j xs ys v h e w = rw (e, w, add-one j) (stored j xs h)

  -- what stands at the next place
  next : (j : ℕ) (xs : List Float) → j < length xs → get_or (part_way f g j xs) j nan ≡ g (get_or xs j nan)
  unfolding part_way
  next j [] h = absurd (not-suc-le-zero h)
  next zero (x ∷ xs) h = refl
  next (suc j) (x ∷ xs) h = next j xs (le_of_suc-le-suc h)

  pub next_of : (j : ℕ) (xs ys : List Float) → j < length xs → ys ≡ part_way f g j xs → get_or ys j nan ≡ g (get_or xs j nan)
  next_of j xs ys h e = rw e (next j xs h)

  pub same_length : (j : ℕ) (xs : List Float) → length (part_way f g j xs) ≡ length xs
  unfolding part_way
  same_length zero xs = length-map xs g
  same_length (suc j) [] = refl
  same_length (suc j) (x ∷ xs) = ap suc (same_length j xs)

  pub at_end_lem : (j : ℕ) (xs : List Float) → length xs ≤ j → part_way f g j xs ≡ map f xs
  unfolding part_way
  at_end_lem zero [] h = refl
  at_end_lem zero (x ∷ xs) h = absurd (not-suc-le-zero h)
  at_end_lem (suc j) [] h = refl
  at_end_lem (suc j) (x ∷ xs) h = ap (λ (r : List Float). f x ∷ r) (at_end_lem j xs (le_of_suc-le-suc h))

pub map_alike : (f g : Float → Float) → ((x : Float) → f x ≡ g x) → (xs : List Float) → map f xs ≡ map g xs
map_alike f g e [] = refl
map_alike f g e (x ∷ xs) = ap₂ (λ (y : Float) (r : List Float). y ∷ r) (e x) (map_alike f g e xs)

pub map_same : (xs : List Float) → map (λ (x : Float). x) xs ≡ xs
map_same [] = refl
map_same (x ∷ xs) = ap (λ (r : List Float). x ∷ r) (map_same xs)

-- ---- n numbers changed one after the other
-- What the loop keeps: f of each number before place j, and the others as they were.
pub record Passed (f : Float → Float) (n : ℕ) (xs ys : List Float) (j : ℕ) : Type 0 where
  pub within : j ≤ n
  pub so_far : ys ≡ part_way f (λ x. x) j xs
  pub kept : length ys ≡ length xs

pub none_passed : (f : Float → Float) (n : ℕ) (xs : List Float) → Passed f n xs xs 0
none_passed f n xs = record { within = omega arith; so_far = sym (at_start f (λ x. x) xs ∙ map_same xs); kept = refl }

module _ {f : Float → Float} {n : ℕ} {xs ys : List Float} {j : ℕ} (p : Passed f n xs ys j) (size : length xs ≡ n) where
  -- what stands at the next place
  pub as_it_was : j < n → get_or ys j nan ≡ get_or xs j nan
  as_it_was h = next_of f (λ x. x) j xs ys (omega arith) p.so_far

  pub one_passed : (v : Float) → j < n → v ≡ f (get_or xs j nan) → Passed f n xs (set ys j v) (j + 1)
  one_passed v h e = record { within = omega arith; so_far = one_further f (λ x. x) j xs ys v (omega arith) p.so_far e; kept = simp length-set p.kept }

  pub all_passed : n ≤ j → ys ≡ map f xs
  all_passed h = p.so_far ∙ at_end_lem f (λ x. x) j xs (omega arith)

-- the same number at each place
pub copies : (n : ℕ) (v : Float) (xs : List Float) → length xs ≡ n → replicate n v ≡ map (λ (x : Float). v) xs
copies zero v [] e = refl
copies zero v (x ∷ xs) e = absurd (none (length xs) e)
  where
    none : (n : ℕ) → suc n ≡ 0 → ⊥
    none n e = omega arith
copies (suc n) v [] e = absurd (none n e)
  where
    none : (n : ℕ) → 0 ≡ suc n → ⊥
    none n e = omega arith
copies (suc n) v (x ∷ xs) e = ap (λ (r : List Float). v ∷ r) (copies n v xs (less (length xs) n e))
  where
    less : (a b : ℕ) → suc a ≡ suc b → a ≡ b
    less a b e = omega arith

-- ---- places copied one by one
pub copied_further : (xs ys : List Float) (j : ℕ) → j < length ys → ((k : ℕ) → k < j → get_or ys k nan ≡ get_or xs k nan)
    → (k : ℕ) → k < j + 1 → get_or (set ys j (get_or xs j nan)) k nan ≡ get_or xs k nan
copied_further xs ys j h all =
    below_more (λ (k : ℕ). get_or (set ys j (get_or xs j nan)) k nan ≡ get_or xs k nan) j (λ k l. get_or-set_other ys j k (get_or xs j nan) nan (apart k l) ∙ all k l) (get_or-set_same ys j (get_or xs j nan) nan h)
  where
    apart : (k : ℕ) → k < j → k ≡ j → ⊥
    apart k l e = omega (arith, e)

-- ---- a part of the list, done at once
front : (f : Float → Float) (n : ℕ) (xs : List Float) → map f (take n xs) ++ drop n xs ≡ part_way f (λ x. x) n xs
unfolding part_way
front f zero xs = sym (map_same xs)
front f (suc n) [] = refl
front f (suc n) (x ∷ xs) = ap (λ (r : List Float). f x ∷ r) (front f n xs)

part : (f : Float → Float) (a n : ℕ) (xs : List Float) → a ≤ length xs
    → take a (part_way f (λ x. x) a xs) ++ (map f (take n (drop a (part_way f (λ x. x) a xs))) ++ drop n (drop a (part_way f (λ x. x) a xs))) ≡ part_way f (λ x. x) (a + n) xs
unfolding part_way
part f zero n xs h = rw (map_same xs, zero-add n) (front f n xs)
part f (suc a) n [] h = absurd (not-suc-le-zero h)
part f (suc a) n (x ∷ xs) h = rw (suc-add a n) (ap (λ (r : List Float). f x ∷ r) (part f a n xs (le_of_suc-le-suc h)))

pub part_further : (f : Float → Float) (a n : ℕ) (xs ys done : List Float) → a ≤ length xs → ys ≡ part_way f (λ x. x) a xs → done ≡ map f (take n (drop a ys))
    → take a ys ++ (done ++ drop n (drop a ys)) ≡ part_way f (λ x. x) (a + n) xs
part_further f a n xs ys done h e d = rw (d, e) (part f a n xs h)

-- the same of what a loop keeps
pub part_passed : {f : Float → Float} {n : ℕ} {xs ys : List Float} {a : ℕ} → Passed f n xs ys a → length xs ≡ n → (b : ℕ) (done : List Float) → a ≤ b → b ≤ n → done ≡ map f (take (b - a) (drop a ys))
    → length done ≡ length (take (b - a) (drop a ys)) → Passed f n xs (take a ys ++ (done ++ drop (b - a) (drop a ys))) b
part_passed {f} {n} {xs} {ys} {a} p size b done low high e l =
    let whole : a + (b - a) ≡ b = omega arith in
    record {
      within = high;
      so_far = part_further f a (b - a) xs ys done (omega (arith, p.within)) p.so_far e ∙ ap (λ (k : ℕ). part_way f (λ x. x) k xs) whole;
      kept = same_len_mid a (b - a) ys done l ∙ p.kept;
    }
