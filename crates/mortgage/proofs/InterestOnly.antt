-- An interest-only loan: in its months of interest alone the balance stays what it was to the bit, a row pays the interest and no principal, and shows that balance; behind them its rows are
-- a level loan's, with the payment that it holds. Assumes nothing.
use mathlib.Core.Path.{◌≡◌, refl, ap, ◌∙◌}
use Prim.Native.Nat.{ℕ, zero, suc, ◌+◌, ◌<◌, ◌≤◌}
use native.Mathlib.Omega.{arith}
use lib.Dec.{T}
use lib.Ieee.{Float, nan, binary64, sub, fits}
use borrow.Author.Tests.{lt-ltb, le-ltb}
use Rattle.numbers.specs.Clamps.{plus_zero, raised}
use Rattle.refusals.specs.Outcome.{accepted}
use Rattle.records.specs.declared.Row.{Row}
use Rattle.records.specs.declared.Terms.{Terms}
use Rattle.steps.specs.Steps.{stepped}
use Rattle.steps.specs.Repaid.{column_at}
use Rattle.steps.proofs.Portions.{pieces_same}
use Rattle.steps.proofs.Columns.{column}
use Rattle.mortgage.specs.declared.Loan.{Loan}
use Rattle.mortgage.specs.Row.{width, payment_place, principal_place, interest_place, balance_place, places}
use Rattle.mortgage.specs.Kinds.{Way, interest_only, level}
use Rattle.mortgage.specs.Payment.{monthly_rate, loan_of}
use Rattle.mortgage.specs.Openings.{kind_opened_with}
use Rattle.mortgage.specs.Rates.{in_force}
use Rattle.mortgage.specs.RowRule.{interest_of}
use Rattle.mortgage.specs.Month.{interest_alone, last, principal, paid, remaining, row_on, next_on, row_of, next_of}
use Rattle.mortgage.specs.Rows.{after, rows}
use Rattle.mortgage.specs.Level as of_level
use Rattle.mortgage.proofs.RuleLaws.{nothing_taken}
use Rattle.mortgage.proofs.RowLaws.{done_after}
use Rattle.mortgage.proofs.DrawCases.{row_places, wide}
use Rattle.mortgage.proofs.Sequences.{loan_opened}

-- a loan in hand with so many months done, and so much owed
abbrev standing : Loan → ℕ → Float → Loan
standing l done balance = record { term = l.term; rate = l.rate; payment = l.payment; done = done; balance = balance }

-- a row of interest alone
abbrev pub alone : ℕ → Float → Float → Row
alone month interest balance = record { month = month; payment = interest; principal = plus_zero; interest = interest; balance = raised balance }

-- the interest that a loan in hand owes for a month
abbrev pub owing : Loan → Float
owing l = interest_of (monthly_rate l.rate) l.balance

module _ (k : ℕ) where
  abbrev way : Way
  way = interest_only k

  -- ---- one month
  row_alone : (l : Loan) → l.done < k → row_of way l ≡ alone (l.done + 1) (owing l) (sub binary64 l.balance plus_zero)
  unfolding row_of row_on in_force interest_alone principal paid remaining
  row_alone l h = rw (lt-ltb l.done k h)

  next_alone : (l : Loan) → l.done < k → next_of way l ≡ standing l (l.done + 1) (sub binary64 l.balance plus_zero)
  unfolding next_of next_on in_force interest_alone principal remaining
  next_alone l h = rw (lt-ltb l.done k h)

  -- behind them a month is a level loan's
  row_behind : (l : Loan) → k ≤ l.done → row_of way l ≡ of_level.row_of l
  unfolding row_of row_on in_force interest_alone last principal paid remaining
  row_behind l h = rw (le-ltb l.done k h, le-ltb l.done 0 (omega arith))

  next_behind : (l : Loan) → k ≤ l.done → next_of way l ≡ of_level.next_of l
  unfolding next_of next_on in_force interest_alone last principal remaining
  next_behind l h = rw (le-ltb l.done k h, le-ltb l.done 0 (omega arith))

  -- ---- the months of interest alone, of any loan in hand
  module _ (l : Loan) (fit : T (fits binary64 l.balance)) where
    pub alone_after : (i : ℕ) → l.done + i ≤ k → after way i l ≡ standing l (l.done + i) l.balance
    unfolding stepped
    alone_after zero h = ap (λ (n : ℕ). standing l n l.balance) (omega arith)
    alone_after (suc i) h =
        ap (next_of way) (alone_after i (omega arith))
        ∙ next_alone (standing l (l.done + i) l.balance) (omega arith)
        ∙ ap (standing l (l.done + i + 1)) (nothing_taken l.balance fit)
        ∙ ap (λ (n : ℕ). standing l n l.balance) (omega arith)

    -- the row i, from 0
    pub alone_row : (i : ℕ) → l.done + i < k → row_of way (after way i l) ≡ alone (l.done + i + 1) (owing l) l.balance
    alone_row i h =
        ap (row_of way) (alone_after i (omega arith))
        ∙ row_alone (standing l (l.done + i) l.balance) (omega arith)
        ∙ ap (alone (l.done + i + 1) (owing l)) (nothing_taken l.balance fit)

  -- ---- behind them, of any loan in hand
  pub level_after : (n : ℕ) (l : Loan) → k ≤ l.done → after way n l ≡ of_level.after n l
  unfolding stepped
  level_after zero l h = refl
  level_after (suc n) l h = next_behind (after way n l) (omega (arith, done_after way n l)) ∙ ap of_level.next_of (level_after n l h)

  pub level_rows : (n : ℕ) (l : Loan) → k ≤ l.done → rows way n l ≡ of_level.rows n l
  level_rows n l h =
      pieces_same (λ (i : ℕ). row_places way (after way i l)) (λ (i : ℕ). row_places level (of_level.after i l)) n
      (λ i b. ap places (row_behind (after way i l) (omega (arith, done_after way i l)) ∙ ap of_level.row_of (level_after i l h)))

  -- ---- from an opening, with any payment
  module _ (t : Terms) (pay : Float) (l : Loan) (fit : T (fits binary64 t.principal)) (e : kind_opened_with way t pay ≡ accepted l) where
    opened_is : l ≡ loan_of t pay
    opened_is = loan_opened way t pay l e

    -- the balance stays the principal through month k, to the bit
    pub balance_stays : (i : ℕ) → i ≤ k → (after way i l).balance ≡ t.principal
    unfolding loan_of
    balance_stays i h = rw opened_is (ap (λ (m : Loan). m.balance) (alone_after (loan_of t pay) fit i (omega arith)))

    -- rows 1 to k, the row i from 0, among any n rows: in each place of the row
    module _ (n i : ℕ) (among : i < n) (early : i < k) where
      abbrev interest_due : Float
      interest_due = interest_of (monthly_rate t.rate) t.principal

      row_is : row_of way (after way i l) ≡ alone (i + 1) interest_due t.principal
      unfolding loan_of
      row_is =
          ap (λ (m : Loan). row_of way (after way i m)) opened_is
          ∙ alone_row (loan_of t pay) fit i (omega arith)
          ∙ ap (λ (m : ℕ). alone m interest_due t.principal) (omega arith)

      pub payment_shown : column_at width payment_place (rows way n l) i ≡ interest_due
      payment_shown = column (next_of way) (row_places way) width (wide way) n l i payment_place nan among (omega arith) ∙ ap (λ (r : Row). r.payment) row_is

      pub principal_shown : column_at width principal_place (rows way n l) i ≡ plus_zero
      principal_shown = column (next_of way) (row_places way) width (wide way) n l i principal_place nan among (omega arith) ∙ ap (λ (r : Row). r.principal) row_is

      pub interest_shown : column_at width interest_place (rows way n l) i ≡ interest_due
      interest_shown = column (next_of way) (row_places way) width (wide way) n l i interest_place nan among (omega arith) ∙ ap (λ (r : Row). r.interest) row_is

      pub balance_shown : column_at width balance_place (rows way n l) i ≡ raised t.principal
      balance_shown = column (next_of way) (row_places way) width (wide way) n l i balance_place nan among (omega arith) ∙ ap (λ (r : Row). r.balance) row_is

    -- the rows behind month k are those of a level loan in hand with this payment, which k months are done of and which owes the principal
    pub level_behind : (n : ℕ) → rows way n (after way k l) ≡ of_level.rows n (record { term = t.term; rate = t.rate; payment = pay; done = k; balance = t.principal })
    unfolding loan_of
    level_behind n =
        let m : Loan = standing (loan_of t pay) k t.principal in
        let is : after way k l ≡ m = ap (after way k) opened_is ∙ alone_after (loan_of t pay) fit k (omega arith) ∙ ap (λ (d : ℕ). standing (loan_of t pay) d t.principal) (omega arith) in
        ap (rows way n) is ∙ level_rows n m (omega arith)
