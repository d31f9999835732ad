-- The whole listing: the parts of a loan's lines, that the room for a listing holds them, and what a record gives in each case. Assumes nothing.
use mathlib.Core.Path.{◌≡◌, ap, ◌∙◌}
use mathlib.Core.List.{List, [], ◌++◌}
use Prim.Native.Nat.{ℕ, ◌+◌, ◌*◌, ◌≤◌, zero-le}
use native.Mathlib.Nat.{zero-add}
use native.Mathlib.Omega.{arith}
use lib.ListN.{length, drop, length-append}
use lib.Seq.{sets-eq}
use Rattle.refusals.specs.Outcome.{Outcome, refused, accepted, and_then}
use Rattle.records.specs.declared.Terms.{Terms}
use Rattle.records.specs.Kinds.{read_terms}
use Rattle.mortgage.specs.declared.Loan.{Loan}
use Rattle.mortgage.specs.Terms.{terms_lines as loan_terms_lines}
use Rattle.mortgage.specs.Payment.{payment, loan_of, opened_with, opened}
use Rattle.mortgage.specs.Month as any_month
use Rattle.mortgage.specs.Level.{due, after}
use Rattle.mortgage.proofs.TermsLaws.{terms_passed}
use Rattle.refusals.proofs.Verdicts.{accepted_value}
use Rattle.listing.specs.declared.portions.Listed.{Listed}
use Rattle.listing.specs.Listing.{header, row_lines, footer, refused_line, loan_lines, listed, listed_size, lines_over, saying, listing}
use Rattle.listing.specs.inner.Putting.{Put}
use Rattle.listing.specs.inner.Portions.{line_room, listing_room, InHand, Listable, Lists}
use Rattle.listing.proofs.Putting.{then, same_text, same_room}
use Rattle.listing.proofs.Lengths.{length_footer, length_refused, length_lines}
use Rattle.listing.proofs.PortionLaws.{short}

-- ---- a loan that was opened is in hand
pub opened_in_hand : (t : Terms) (l : Loan) → opened t ≡ accepted l → InHand l
unfolding opened opened_with loan_of
opened_in_hand t l e =
    let v : l ≡ loan_of t (payment t) = accepted_value (loan_terms_lines t) (loan_of t (payment t)) l e in
    record {
      term = rw v (terms_passed t [] (loan_of t (payment t)) l e).1;
      done = rw v zero-le;
    }

few_due : (l : Loan) → InHand l → due l ≤ 1200
unfolding any_month.due
few_due l h = omega (arith, short l h.term)

-- ---- a loan's listing, part by part
pub starts : (l : Loan) (at : ℕ) (o p : List ℕ) → InHand l → listing_room ≤ length o → Put header 0 o at p
    → Listable (record { at = at; rows = 0; left = 0; loan = l }) (length p)
starts l at o p h b t = record {
  drawable = h;
  count = omega (arith, few_due l h);
  lines = omega (arith, few_due l h, t.place, same_room t);
}

pub footer_fits : (l : Loan) (at : ℕ) (o p q : List ℕ) (s : Listed) → InHand l → listing_room ≤ length o → Put header 0 o at p
    → Lists (due l) (record { at = at; rows = 0; left = 0; loan = l }) p s q → (m n : ℕ) → s.at + length (footer m n) ≤ length q
footer_fits l at o p q s h b t a m n =
    omega (arith, few_due l h, t.place, same_room t, a.text.place, same_room a.text, length_lines (due l) l, length_footer m n)

pub loan_listed : (l : Loan) (at n : ℕ) (o p q r : List ℕ) (s : Listed) → Put header 0 o at p
    → Lists (due l) (record { at = at; rows = 0; left = 0; loan = l }) p s q → s.left ≡ due s.loan
    → Put (footer s.rows s.left) s.at q n r → Put (loan_lines l) 0 o n r
unfolding loan_lines
loan_listed l at n o p q r s t a e f =
    let k : s.rows ≡ due l = a.rows ∙ zero-add (due l) in
    let m : s.left ≡ due (after (due l) l) = e ∙ ap due a.loan in
    then (then t a.text) (same_text (rw (k, m)) f)

-- ---- a loan's lines fit
pub loan_fits : (l : Loan) → InHand l → length (loan_lines l) ≤ listing_room
unfolding loan_lines
loan_fits l h =
    let f : length (footer (due l) (due (after (due l) l))) ≤ 32 = length_footer (due l) (due (after (due l) l)) in
    let r : length (row_lines (due l) l) ≤ due l * line_room = length_lines (due l) l in
    let d : due l ≤ 1200 = few_due l h in
    simp length-append (omega arith)

-- put from the start of the lent memory, a text stands there and the other bytes stay
over : (text o p : List ℕ) (r : ℕ) → length text ≤ length o → Put text 0 o r p → (r ≡ length text) × (p ≡ text ++ drop (length text) o)
over text o p r b t = (t.place ∙ zero-add (length text), t.bytes ∙ sets-eq text o 0 (omega arith) ∙ rw (zero-add (length text)))

-- ---- what the record gives
module _ (bytes : List ℕ) where
  pub refused_record : (k p : ℕ) → read_terms bytes ≡ refused k p → listed bytes ≡ refused k p
  unfolding listed
  refused_record k p e = rw e

  pub refused_loan : (t : Terms) (k p : ℕ) → read_terms bytes ≡ accepted t → opened t ≡ refused k p → listed bytes ≡ refused k p
  unfolding listed
  refused_loan t k p e f = rw (e, f)

  pub accepted_loan : (t : Terms) (l : Loan) → read_terms bytes ≡ accepted t → opened t ≡ accepted l → listed bytes ≡ accepted (loan_lines l)
  unfolding listed
  accepted_loan t l e f = rw (e, f)

  pub gives_refusal : (k p : ℕ) (o : List ℕ) → listed bytes ≡ refused k p → (refused k p ≡ listed_size bytes) × (o ≡ lines_over (listed bytes) o)
  unfolding listed_size lines_over
  gives_refusal k p o e = (rw e, rw e)

  pub gives_lines : (l : Loan) (o p : List ℕ) (r : ℕ) → listed bytes ≡ accepted (loan_lines l) → InHand l → length o ≡ listing_room → Put (loan_lines l) 0 o r p
      → (accepted r ≡ listed_size bytes) × (p ≡ lines_over (listed bytes) o)
  unfolding listed_size lines_over
  gives_lines l o p r e h n t =
      let v = over (loan_lines l) o p r (omega (arith, loan_fits l h)) t in
      (rw (e, v.0), rw e v.1)

-- ---- what the program says of it
abbrev sized : Outcome (List ℕ) → Outcome ℕ
sized x = and_then x (λ (lines : List ℕ). accepted (length lines))

refused_said : (x : Outcome (List ℕ)) (k p r : ℕ) (o m q : List ℕ) → refused k p ≡ sized x → m ≡ lines_over x o → length m ≡ listing_room → Put (refused_line k p) 0 m r q
    → (r ≡ length (saying x)) × (q ≡ saying x ++ drop r o)
unfolding lines_over saying
refused_said (refused j i) k p r o m q e s n t =
    let f : refused_line k p ≡ refused_line j i = cc in
    let v = over (refused_line j i) m q r (omega (arith, length_refused j i)) (same_text f t) in
    (v.0, v.1 ∙ rw (v.0, s))
refused_said (accepted lines) k p r o m q e s n t = let z : ◌≡◌ {A = ℕ} 0 1 = cc in absurd (omega arith)

lines_said : (x : Outcome (List ℕ)) (n : ℕ) (o m : List ℕ) → accepted n ≡ sized x → m ≡ lines_over x o → (n ≡ length (saying x)) × (m ≡ saying x ++ drop n o)
unfolding lines_over saying
lines_said (refused k p) n o m e s = let z : ◌≡◌ {A = ℕ} 0 1 = cc in absurd (omega arith)
lines_said (accepted lines) n o m e s = let f : n ≡ length lines = cc in (f, s ∙ rw f)

module _ (bytes : List ℕ) where
  pub says_refusal : (k p r : ℕ) (o m q : List ℕ) → refused k p ≡ listed_size bytes → m ≡ lines_over (listed bytes) o → length m ≡ listing_room → Put (refused_line k p) 0 m r q
      → (r ≡ length (listing bytes)) × (q ≡ listing bytes ++ drop r o)
  unfolding listed_size listing
  says_refusal k p r o m q e s n t = refused_said (listed bytes) k p r o m q e s n t

  pub says_lines : (n : ℕ) (o m : List ℕ) → accepted n ≡ listed_size bytes → m ≡ lines_over (listed bytes) o → (n ≡ length (listing bytes)) × (m ≡ listing bytes ++ drop n o)
  unfolding listed_size listing
  says_lines n o m e s = lines_said (listed bytes) n o m e s
