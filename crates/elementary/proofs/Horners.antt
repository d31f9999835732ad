-- Horner's rule from the top: the last coefficient, and the others folded in, the highest first. Assumes nothing.
use Rattle.std.proofs.Common.{◌≡◌, refl, sym, ap, ap₂, ◌∙◌, ℕ, zero, suc, ◌+◌, ◌≤◌, ◌<◌, arith, List, [], ◌∷◌, length, get_or, take, reverse, fold}
use native.Mathlib.Nat.{le_of_suc-le-suc, not-suc-le-zero}
use Rattle.std.proofs.lemmas.List.{reverse-append}
use Rattle.std.proofs.lemmas.List.Sums.{fold-append}
use Rattle.std.specs.Float.{nan, binary64}
use Rattle.std.specs.Float.Ieee.{Float, add, mul}
use Rattle.elementary.specs.Horner.{horner}
use Rattle.elementary.proofs.Tables.{row, entry}

-- the coefficients of a table
abbrev pub of_table : List Float → ℕ → Float
of_table cs k = get_or cs k nan

module _ (x : Float) where
  abbrev pub onto : Float → Float → Float
  onto sum c = add binary64 (mul binary64 sum x) c

  further_on : (a : ℕ → Float) (j m : ℕ) → horner a x (suc j) m ≡ horner (λ k. a (suc k)) x j m
  unfolding horner
  further_on a j zero = refl
  further_on a j (suc m) = ap (λ (sum : Float). onto sum (a (suc j))) (further_on a (suc j) m)

  pub folded : (cs : List Float) (n : ℕ) → n < length cs → fold onto (get_or cs n nan) (reverse (take n cs)) ≡ horner (of_table cs) x 0 n
  unfolding horner
  folded [] n h = absurd (not-suc-le-zero h)
  folded (c ∷ cs) zero h = refl
  folded (c ∷ cs) (suc n) h =
      ap (fold onto (get_or cs n nan)) (reverse-append (c ∷ []) (take n cs))
      ∙ fold-append onto (get_or cs n nan) (reverse (take n cs)) (c ∷ [])
      ∙ ap (λ (sum : Float). onto sum c) (folded cs n (le_of_suc-le-suc h))
      ∙ ap (λ (sum : Float). onto sum c) (sym (further_on (of_table (c ∷ cs)) 0 n))

  -- the coefficients up to the last one are all that counts
  alike : (a b : ℕ → Float) (j m : ℕ) → ((k : ℕ) → k ≤ j + m → a k ≡ b k) → horner a x j m ≡ horner b x j m
  unfolding horner
  alike a b j zero e = e j (omega arith)
  alike a b j (suc m) e = ap₂ onto (alike a b (suc j) m (λ k h. e k (omega arith))) (e j (omega arith))

  pub by_table : (rule : ℕ → Float) (table : List Float) (n : ℕ) → table ≡ row rule 0 (suc n) → horner (of_table table) x 0 n ≡ horner rule x 0 n
  by_table rule table n is = alike (of_table table) rule 0 n (λ k h. entry rule table (suc n) is k (omega arith))
