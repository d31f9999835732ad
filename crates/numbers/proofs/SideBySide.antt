-- Three lists gone through side by side, as a `for` over `a.iter().zip(b).zip(c)` does: where the turn in hand stands in each. Assumes nothing.
use Rattle.std.proofs.Common.{◌≡◌, ℕ, ◌<◌, min, List, Iter, length, get_or, ap, ◌∙◌, arith}
use Rattle.std.specs.declared.iter.Zip.{Zip}
use Rattle.std.specs.List.{zip}
use Rattle.std.specs.Iterator.Adapters.{zip_first, zip_second}
use Rattle.std.specs.Slice.Iter.{iter_rest}
use Rattle.std.proofs.lemmas.Fn.{fronts}
use Rattle.std.proofs.lemmas.Iterator.{YieldsList, zips, YieldsList-from_zip, YieldsList-from_slice}
use Rattle.std.proofs.lemmas.List.{get_or_default}
use Rattle.std.proofs.lemmas.Slice.Zip.{length-zip, get_or-zip}

module _ {A B C : Type 0} (xs : List A) (ys : List B) (zs : List C) where
  pub record AtTurn (n : ℕ) (a : A) (b : B) (c : C) : Type 0 where
    pub first_in : n < length xs
    pub second_in : n < length ys
    pub third_in : n < length zs
    pub first : (d : A) → a ≡ get_or xs n d
    pub second : (d : B) → b ≡ get_or ys n d
    pub third : (d : C) → c ≡ get_or zs n d

  -- what the iterator gives, from its three ends
  pub gives : {s : Zip (Zip (Iter A) (Iter B)) (Iter C)} → iter_rest (zip_first (zip_first s)) ≡ xs → iter_rest (zip_second (zip_first s)) ≡ ys → iter_rest (zip_second s) ≡ zs
      → YieldsList {B = (A × B) × C} (zips (zips fronts fronts) fronts) (λ p. ((p.0.0.now, p.0.1.now), p.1.now)) s (zip (zip xs ys) zs)
  gives e f g = YieldsList-from_zip (YieldsList-from_zip (YieldsList-from_slice xs e) (YieldsList-from_slice ys f)) (YieldsList-from_slice zs g)

  pub length_three : length (zip (zip xs ys) zs) ≡ min (min (length xs) (length ys)) (length zs)
  length_three = length-zip (zip xs ys) zs ∙ ap (λ (n : ℕ). min n (length zs)) (length-zip xs ys)

  module _ (n : ℕ) (a : A) (b : B) (c : C) where
    place : n < length xs → n < length ys → n < length zs → get_or (zip (zip xs ys) zs) n ((a, b), c) ≡ ((get_or xs n a, get_or ys n b), get_or zs n c)
    place i j k =
        let l : n < length (zip xs ys) = rw (length-zip xs ys) (omega arith) in
        get_or-zip (zip xs ys) zs n ((a, b), c) l k ∙ ap (λ (p : A × B). (p, get_or zs n c)) (get_or-zip xs ys n (a, b) i j)

    by_place : n < length xs → n < length ys → n < length zs → ◌≡◌ {A = (A × B) × C} ((a, b), c) ((get_or xs n a, get_or ys n b), get_or zs n c) → AtTurn n a b c
    by_place i j k e = record {
      first_in = i;
      second_in = j;
      third_in = k;
      first = λ d. ap (λ (p : (A × B) × C). p.0.0) e ∙ get_or_default xs n a d i;
      second = λ d. ap (λ (p : (A × B) × C). p.0.1) e ∙ get_or_default ys n b d j;
      third = λ d. ap (λ (p : (A × B) × C). p.1) e ∙ get_or_default zs n c d k;
    }

    pub at_turn : (n < length (zip (zip xs ys) zs)) × ◌≡◌ {A = (A × B) × C} ((a, b), c) (get_or (zip (zip xs ys) zs) n ((a, b), c)) → AtTurn n a b c
    at_turn h =
        let all = rw length_three at h.0 in
        by_place (omega arith) (omega arith) (omega arith) (h.1 ∙ place (omega arith) (omega arith) (omega arith))
