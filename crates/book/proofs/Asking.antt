-- What a loan of a book answers and asks for: by its terms alone where they are judged, and by its record; and how it begins. Assumes nothing.
use mathlib.Core.Path.{◌≡◌, refl, sym, ap, ◌∙◌}
use mathlib.Core.Bool.{false}
use mathlib.Core.List.{List, []}
use Prim.Native.Nat.{ℕ, ◌*◌, ◌≤◌, ◌<◌}
use native.Mathlib.Omega.{arith}
use lib.ListN.{length}
use Rattle.refusals.specs.declared.Refusal.{Refusal}
use Rattle.refusals.specs.Outcome.{Outcome, refused, accepted, and_then, judged}
use Rattle.refusals.specs.Table.{bad_term}
use Rattle.refusals.proofs.Causes.{some_term}
use Rattle.refusals.proofs.Verdicts.{refused_by, accepted_by, accepted_value}
use Rattle.records.specs.declared.Terms.{Terms}
use Rattle.records.specs.Kinds.{terms_size, read_terms}
use Rattle.records.specs.EndToEnd.{record_at}
use Rattle.mortgage.specs.declared.Loan.{Loan}
use Rattle.mortgage.specs.Row.{width}
use Rattle.mortgage.specs.Terms.{terms_lines}
use Rattle.mortgage.specs.Payment.{payment, loan_of, opened_with, opened}
use Rattle.mortgage.specs.Month as any_month
use Rattle.mortgage.specs.Level.{end_month, due, rows}
use Rattle.steps.specs.Steps.{pieces}
use Rattle.mortgage.proofs.TermsLaws.{terms_passed}
use Rattle.mortgage.proofs.LevelLaws.{length_rows}
use Rattle.book.specs.Book.{loan_at, answer, asked, first_rows}
use Rattle.std.specs.declared.result.Result.TheVariants.{Ok, Err}
use Rattle.std.specs.declared.result.Result.{Result}
use Rattle.refusals.specs.Answers.{number, outcome}

-- ---- by its terms
module _ (t : Terms) (x : Result Unit Refusal) (e : outcome x ≡ judged (terms_lines t) tt) where
  pub refused_terms : (r : Refusal) → x ≡ Err r → refused (number r.cause) r.place ≡ opened t
  unfolding opened opened_with
  refused_terms r h = refused_by (terms_lines t) (loan_of t (payment t)) x r h e

  pub accepted_terms : x ≡ (Ok tt) → (0 ≡ answer (opened t)) × (t.term ≡ asked (opened t))
  unfolding opened opened_with loan_of any_month.due any_month.end_month
  accepted_terms h =
      let same : accepted (loan_of t (payment t)) ≡ opened t = accepted_by (terms_lines t) (loan_of t (payment t)) x h e in
      let d : t.term ≡ due (loan_of t (payment t)) = omega arith in
      (ap answer same, d ∙ ap asked same)

-- ---- by its record
module _ (bytes : List ℕ) (i : ℕ) (x : Result Terms Refusal) (e : outcome x ≡ read_terms (record_at terms_size bytes i)) where
  pub refused_record : (r : Refusal) → x ≡ Err r → refused (number r.cause) r.place ≡ loan_at bytes i
  unfolding loan_at
  refused_record r h = ap (λ (o : Outcome Terms). and_then o opened) (sym (ap outcome h) ∙ e)

  pub given_record : (t : Terms) → x ≡ Ok t → opened t ≡ loan_at bytes i
  unfolding loan_at
  given_record t h = ap (λ (o : Outcome Terms). and_then o opened) (sym (ap outcome h) ∙ e)

pub both_of : (number rows : ℕ) (o q : Outcome Loan) → (number ≡ answer o) × (rows ≡ asked o) → o ≡ q → (number ≡ answer q) × (rows ≡ asked q)
both_of number rows o q b e = rw (sym e) b

-- ---- a loan of a book has a good term, and no month done
pub record Fresh (l : Loan) : Type 0 where
  pub good : bad_term l.term ≡ false
  pub unstarted : l.done ≡ 0

fresh_terms : (t : Terms) (l : Loan) → opened t ≡ accepted l → Fresh l
unfolding opened opened_with loan_of
fresh_terms t l e =
    let m : l ≡ loan_of t (payment t) = accepted_value (terms_lines t) (loan_of t (payment t)) l e in
    record { good = ap (λ (k : Loan). bad_term k.term) m ∙ (terms_passed t [] (loan_of t (payment t)) l e).1; unstarted = ap (λ (k : Loan). k.done) m }

pub fresh : (bytes : List ℕ) (i : ℕ) (l : Loan) → loan_at bytes i ≡ accepted l → Fresh l
unfolding loan_at
fresh bytes i l e = go (read_terms (record_at terms_size bytes i)) e
  where
    go : (o : Outcome Terms) → and_then o opened ≡ accepted l → Fresh l
    go (refused k p) g = let z : ◌≡◌ {A = ℕ} 0 1 = cc in absurd (omega arith)
    go (accepted t) g = fresh_terms t l g

-- so that some month is due
pub some_due : (l : Loan) → Fresh l → l.done < end_month l
unfolding any_month.end_month
some_due l new = omega (arith, some_term l.term new.good, new.unstarted)

-- ---- so many rows are so many times their places
pub length_first : (k : ℕ) (o : Outcome Loan) → k ≤ asked o → length (first_rows k o) ≡ k * width
length_first k (refused n p) h = omega arith
length_first k (accepted l) h = length_rows k l

pub none_first : (o : Outcome Loan) (k : ℕ) → k ≡ 0 → first_rows k o ≡ first_rows 0 (refused 0 0)
unfolding pieces
none_first (refused n p) k e = refl
none_first (accepted l) k e = rw e
