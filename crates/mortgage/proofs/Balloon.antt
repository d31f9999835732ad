-- A balloon loan: its rows before the named month are those of the level loan with its terms and its payment, the row of that month pays all that the level loan would still owe, and no row is
-- due after it. Assumes nothing.
use mathlib.Core.Path.{◌≡◌, refl, ap, ◌∙◌}
use Prim.Native.Nat.{ℕ, zero, suc, ◌+◌, ◌-◌, ◌<◌, ◌≤◌}
use native.Mathlib.Omega.{arith}
use lib.Ieee.{Float, binary64, add, sub}
use borrow.Author.Tests.{le-ltb, eq-eqb, ne_eqb}
use Rattle.numbers.specs.Clamps.{raised}
use Rattle.refusals.specs.Outcome.{accepted}
use Rattle.records.specs.declared.Row.{Row}
use Rattle.records.specs.declared.Terms.{Terms}
use Rattle.steps.specs.Steps.{stepped}
use Rattle.steps.proofs.Portions.{pieces_same}
use Rattle.mortgage.specs.declared.Loan.{Loan}
use Rattle.mortgage.specs.Row.{places}
use Rattle.mortgage.specs.Kinds.{Way, balloon, level}
use Rattle.mortgage.specs.Payment.{monthly_rate, loan_of}
use Rattle.mortgage.specs.Openings.{kind_opened_with}
use Rattle.mortgage.specs.Rates.{in_force}
use Rattle.mortgage.specs.RowRule.{interest_of, principal_of, payment_of}
use Rattle.mortgage.specs.Month.{interest_alone, last, principal, paid, remaining, row_on, next_on, end_month, due, row_of, next_of}
use Rattle.mortgage.specs.Rows.{after, rows}
use Rattle.mortgage.specs.Level as of_level
use Rattle.mortgage.proofs.RowLaws.{term_after, done_after, due_after}
use Rattle.mortgage.proofs.DrawCases.{row_places, fits_ends, fits_some}
use Rattle.mortgage.proofs.LevelLaws.{rate_after}
use Rattle.mortgage.proofs.Sequences.{loan_opened, lines_passed, all_due}

-- the last row, of what is owed at a monthly rate
abbrev pub paying_all : ℕ → Float → Float → Row
paying_all month r owed = record { month = month; payment = add binary64 owed (interest_of r owed); principal = owed; interest = interest_of r owed; balance = raised (sub binary64 owed owed) }

module _ (m : ℕ) where
  abbrev way : Way
  way = balloon m

  -- ---- one month before the named one is a level loan's
  row_before : (l : Loan) → l.done + 1 < m → m ≤ l.term → row_of way l ≡ of_level.row_of l
  unfolding row_of row_on in_force interest_alone last principal paid remaining
  row_before l h b = rw (ne_eqb (l.done + 1) m (λ e. omega arith), ne_eqb (l.done + 1) l.term (λ e. omega arith))

  next_before : (l : Loan) → l.done + 1 < m → m ≤ l.term → next_of way l ≡ of_level.next_of l
  unfolding next_of next_on in_force interest_alone last principal remaining
  next_before l h b = rw (ne_eqb (l.done + 1) m (λ e. omega arith), ne_eqb (l.done + 1) l.term (λ e. omega arith))

  -- and the named one pays all
  row_named : (l : Loan) → l.done + 1 ≡ m → row_of way l ≡ paying_all (l.done + 1) (monthly_rate l.rate) l.balance
  unfolding row_of row_on in_force interest_alone last principal paid remaining principal_of payment_of
  row_named l e = rw (le-ltb l.done 0 (omega arith), eq-eqb (l.done + 1) m e)

  -- ---- the months before it, of any loan in hand
  module _ (l : Loan) (within : m ≤ l.term) where
    still_within : (i : ℕ) → m ≤ (after way i l).term
    still_within i = omega (arith, term_after way i l)

    pub level_after : (n : ℕ) → l.done + n < m → after way n l ≡ of_level.after n l
    unfolding stepped
    level_after zero h = refl
    level_after (suc n) h = next_before (after way n l) (omega (arith, done_after way n l)) (still_within n) ∙ ap of_level.next_of (level_after n (omega arith))

    pub level_rows : (n : ℕ) → l.done + n < m → rows way n l ≡ of_level.rows n l
    level_rows n h =
        pieces_same (λ (i : ℕ). row_places way (after way i l)) (λ (i : ℕ). row_places level (of_level.after i l)) n
        (λ i b. ap places (row_before (after way i l) (omega (arith, done_after way i l)) (still_within i) ∙ ap of_level.row_of (level_after i (omega arith))))

  -- ---- from an opening, with any payment
  module _ (t : Terms) (pay : Float) (l : Loan) (e : kind_opened_with way t pay ≡ accepted l) where
    opened_is : l ≡ loan_of t pay
    opened_is = loan_opened way t pay l e

    ends_within : m ≤ (loan_of t pay).term
    unfolding loan_of end_month
    ends_within = fits_ends way (loan_of t pay) (lines_passed way t pay l e).2

    begins : 0 < m
    unfolding loan_of end_month
    begins = fits_some way (loan_of t pay) (lines_passed way t pay l e).1 (lines_passed way t pay l e).2

    pub level_until : (n : ℕ) → n < m → rows way n l ≡ of_level.rows n (loan_of t pay)
    unfolding loan_of
    level_until n h = ap (rows way n) opened_is ∙ level_rows (loan_of t pay) ends_within n (omega arith)

    -- what the level loan owes before month m is paid in it, with its interest
    pub pays_all : row_of way (after way (m - 1) l) ≡ paying_all m (monthly_rate t.rate) (of_level.after (m - 1) (loan_of t pay)).balance
    unfolding loan_of
    pays_all =
        let b : Loan = loan_of t pay in
        let is : after way (m - 1) l ≡ of_level.after (m - 1) b = ap (after way (m - 1)) opened_is ∙ level_after b ends_within (m - 1) (omega (arith, begins)) in
        let done : (of_level.after (m - 1) b).done + 1 ≡ m = omega (arith, begins, done_after level (m - 1) b) in
        ap (row_of way) is
        ∙ row_named (of_level.after (m - 1) b) done
        ∙ ap (λ (n : ℕ). paying_all n (monthly_rate (of_level.after (m - 1) b).rate) (of_level.after (m - 1) b).balance) done
        ∙ ap (λ (x : Float). paying_all m (monthly_rate x) (of_level.after (m - 1) b).balance) (rate_after (m - 1) b)

    pub no_row_after : due way (after way m l) ≡ 0
    no_row_after = omega (arith, due_after way m l, ap (due way) opened_is ∙ all_due way t pay)
