-- Columns of a level loan's rows, folded row by row: the interest column added up, and the balance column's last entry. Assumes nothing.
use mathlib.Core.Path.{◌≡◌, refl, sym, ap, ◌∙◌}
use Prim.Native.Nat.{ℕ, zero, suc}
use lib.Ieee.{Float, binary64, add}
use Rattle.std.specs.Prelude.{fold}
use Rattle.numbers.specs.Clamps.{plus_zero}
use Rattle.numbers.specs.Sums.{added_up}
use Rattle.records.specs.declared.Row.{Row}
use Rattle.steps.specs.Steps.{stepped}
use Rattle.mortgage.specs.declared.Loan.{Loan}
use Rattle.mortgage.specs.declared.kinds.Course.{Course}
use Rattle.mortgage.specs.Kinds.{level, course_of}
use Rattle.mortgage.specs.Rates.{in_force}
use Rattle.mortgage.specs.Month.{row_on, next_on, row_of}
use Rattle.mortgage.specs.Rows.{after_on, after}
use Rattle.mortgage.specs.Totals.{interest_at, balance_after}
use Rattle.mortgage.specs.inner.RowsToCome.{rows_to_come}
use Rattle.mortgage.proofs.RowLaws.{term_after}
use Rattle.mortgage.proofs.SteadyKinds.{level_after}

module _ (c : Course) where
  one_on : (n : ℕ) (l : Loan) → after_on c n (next_on c l) ≡ next_on c (after_on c n l)
  unfolding stepped
  one_on zero l = refl
  one_on (suc n) l = ap (next_on c) (one_on n l)

  -- a fold over one row more ends with that row
  fold_more : (g : Float → Row → Float) (z : Float) (n : ℕ) (l : Loan) → fold g z (rows_to_come c (suc n) l) ≡ g (fold g z (rows_to_come c n l)) (row_on c (after_on c n l))
  unfolding rows_to_come stepped
  fold_more g z zero l = refl
  fold_more g z (suc n) l = fold_more g (g z (row_on c l)) n (next_on c l) ∙ ap (λ (m : Loan). g (fold g z (rows_to_come c (suc n) l)) (row_on c m)) (one_on n l)

module _ (l : Loan) where
  abbrev its : Course
  its = course_of level l.term

  row_at : (n : ℕ) → row_on its (after_on its n l) ≡ row_of level (after level n l)
  unfolding row_of in_force
  row_at n = sym (ap (λ (t : ℕ). row_on (course_of level t) (after level n l)) (term_after level n l) ∙ ap (row_on its) (level_after n l))

  abbrev pub interest_more : Float → Row → Float
  interest_more total r = add binary64 total r.interest

  pub interest_folded : (n : ℕ) → fold interest_more plus_zero (rows_to_come its n l) ≡ added_up (interest_at l) n
  unfolding added_up rows_to_come
  interest_folded zero = refl
  interest_folded (suc n) = fold_more its interest_more plus_zero n l ∙ rw (interest_folded n, row_at n)

  abbrev pub last_balance : Float → Row → Float
  last_balance balance r = r.balance

  pub balance_folded : (n : ℕ) → fold last_balance l.balance (rows_to_come its n l) ≡ balance_after l n
  unfolding balance_after rows_to_come
  balance_folded zero = refl
  balance_folded (suc n) = fold_more its last_balance l.balance n l ∙ ap (λ (r : Row). r.balance) (row_at n)
