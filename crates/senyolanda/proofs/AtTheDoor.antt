-- Demand 3 at the door that C uses, for a loan of any kind: whatever bytes are handed to an opening, where its result is 0, whatever draws and next_row calls of that kind follow, in any mix, with
-- any rooms, refused ones among them, each handed what the one before handed back: once nothing is due, what was filed is the loan's rows by the row rule, and repays it. Assumes nothing.
use mathlib.Core.Path.{◌≡◌, refl, sym, ap, ◌∙◌, subst}
use mathlib.Core.Bool.{Bool, true, false, cond}
use mathlib.Core.List.{List, [], ◌∷◌}
use Prim.Native.Nat.{ℕ, ◌+◌, ◌*◌, ◌^◌, ◌<◌}
use native.Mathlib.Omega.{arith}
use lib.Dec.{T, eqb}
use lib.ListN.{length, take}
use lib.Ieee.{Float, binary64, fits}
use lib.Ieee.Bits.{of_bits-fits}
use borrow.Author.Tests.{eqb-false, ne_eqb}
use borrow.Fn.Kinds.{Dens, res_t, ended_of}
use contract.Lifetimes.{Lfts}
use denote.Triple.Clauses.{Lasts, at_exit}
use Rattle.refusals.specs.Outcome.{Outcome, refused, accepted, line, and_then}
use Rattle.refusals.specs.Table.{bad_term, bad_record}
use Rattle.refusals.proofs.Causes.{term_within}
use Rattle.refusals.proofs.Verdicts.{accepted_value}
use Rattle.refusals.proofs.NumbersWithin.{between, within}
use Rattle.records.specs.declared.Row.{Row}
use Rattle.records.specs.declared.Terms.{Terms}
use Rattle.records.specs.Bytes.{float_at}
use Rattle.records.specs.Kinds.{terms_kind, terms_size, terms_in, read_terms, row_bytes, row_in, read_row}
use Rattle.records.proofs.Exactly.{read_terms_exactly}
use Rattle.records.proofs.RoundTrip.{row_again}
use Rattle.steps.proofs.Calls.{stays, one_step, filed_to_the_end}
use Rattle.mortgage.specs.declared.Loan.{Loan}
use Rattle.mortgage.specs.declared.draws.Portion.{Portion}
use Rattle.mortgage.specs.Payment.{payment, opened, opened_with}
use Rattle.mortgage.specs.Kinds.{Way, level, interest_only, balloon, adjustable, kind_lines}
use Rattle.mortgage.specs.Openings.{paying_terms, opening_lines, kind_opened_with, kind_opened}
use Rattle.mortgage.specs.Row.{width, places}
use Rattle.mortgage.specs.Month.{due, row_on, row_of, next_of}
use Rattle.mortgage.specs.Rows.{rows, NextRow, finished, next, state_lines, next_row}
use Rattle.mortgage.specs.Draws.{draw_lines, drawn, filled}
use Rattle.mortgage.specs.Demand3.{rows_due, rows_in, handed_back, wrote}
use Rattle.mortgage.proofs.Exactly.{opening_of_any_kind_with_payment_refused_exactly, draw_of_any_kind_refused_exactly, next_row_of_any_kind_refused_exactly}
use Rattle.mortgage.proofs.RowLaws.{in_force_done, term_after, due_after}
use Rattle.mortgage.proofs.PaymentLaws.{payment_held}
use Rattle.mortgage.proofs.RowFits.{LoanHeld, row_held, after_held}
use Rattle.mortgage.proofs.DrawCases.{row_places, Fits, fits_ends}
use Rattle.mortgage.proofs.Sequences.{Moves, draw_moves}
use Rattle.mortgage.proofs.Demand3.{as_opened_of_any_kind}
use Rattle.senyolanda.specs.Told.{refusal_result, told}
use Rattle.senyolanda.specs.Loans.{loan_numbers, portion_numbers, kind_next_numbers}
use Rattle.senyolanda.specs.Calls.{Kept, in_hand, open_answer, open_with_answer, kind_open_answer, kind_open_with_answer, draw_answer, next_answer, Call, draw, next_row_call, rows_said, files, kept_after, filed, RepaysOnceOpen}
use Rattle.senyolanda.proofs.ResultSays.{never_0}
use Rattle.senyolanda.proofs.loans.senyolanda_open.Kinds as open_kinds
use Rattle.senyolanda.proofs.loans.senyolanda_open.Reads as open_reads
use Rattle.senyolanda.proofs.loans.senyolanda_open_with_payment.Kinds as open_with_kinds
use Rattle.senyolanda.proofs.loans.senyolanda_open_with_payment.Reads as open_with_reads
use Rattle.senyolanda.proofs.loans.senyolanda_draw.Kinds as draw_kinds
use Rattle.senyolanda.proofs.loans.senyolanda_draw.Reads as draw_reads
use Rattle.senyolanda.proofs.loans.senyolanda_next_row.Kinds as next_row_kinds
use Rattle.senyolanda.proofs.loans.senyolanda_next_row.Reads as next_row_reads

-- ---- a refused call says no rows
pub none_said : (k p written : ℕ) → 0 < k → rows_said (refusal_result k p) written ≡ 0
none_said k p written h = rw (ne_eqb (refusal_result k p) 0 (never_0 k p h))

pub kind_numbers : (way : Way) (term : ℕ) → T (between 0 0x1_0000_0000 (kind_lines way term))
unfolding between
kind_numbers level term = tt
kind_numbers (interest_only months) term = tt
kind_numbers (balloon month) term = tt
kind_numbers (adjustable a index) term = tt

module _ (way : Way) where
  refused_draw_number : (l : Loan) (room : List Float) (k p : ℕ) → drawn way l room ≡ refused k p → 0 < k
  unfolding between
  refused_draw_number l room k p e = (within 0 0x1_0000_0000 (draw_lines way l (length room)) k p (kind_numbers way l.term) ((draw_of_any_kind_refused_exactly way l room k p).0 e).applies).0

  refused_next_number : (l : Loan) (k p : ℕ) → next_row way l ≡ refused k p → 0 < k
  unfolding between
  refused_next_number l k p e = (within 0 0x1_0000_0000 (state_lines way l) k p (kind_numbers way l.term) ((next_row_of_any_kind_refused_exactly way l k p).0 e).applies).0

  -- ---- one call
  -- what every call leaves true of a loan in hand: its term is good, also for its kind, and its payment and balance are binary64 numbers
  record Held (l : Loan) : Type 0 where
    good : bad_term l.term ≡ false
    kind_fits : Fits way l.term
    numbers : LoanHeld l

  -- what is due is no further than the term, so a u32 holds its month
  month_held : (l : Loan) → Held l → 0 < due way l → l.done + 1 < 2 ^ 32
  unfolding due
  month_held l held h = omega (arith, term_within l.term held.good, fits_ends way l held.kind_fits)

  month_of_row : (l : Loan) → Held l → 0 < due way l → (row_of way l).month < 2 ^ 32
  unfolding row_of row_on
  month_of_row l held h = rw (in_force_done way l) (month_held l held h)

  -- a row's record holds the row
  row_in_record : (l : Loan) → Held l → 0 < due way l → row_in (row_bytes (row_of way l)) ≡ row_of way l
  unfolding read_row
  row_in_record l held h =
      let row = row_held way l held.numbers in
      sym
      (accepted_value _ (row_in (row_bytes (row_of way l))) (row_of way l)
      (row_again (row_of way l) (month_of_row l held h) row.payment_held row.principal_held row.interest_held row.balance_held))

  module _ (k : Kept) (written owed : ℕ) where
    abbrev l : Loan
    l = in_hand k

    abbrev ToldDrawn : Outcome Portion → ℕ × (List ℕ × List Float × ℕ × ℕ)
    ToldDrawn o = told portion_numbers o (k.0, k.1, written, owed)

    draw_files : (room : List Float) → files way k (draw room written owed) ≡ wrote way l room
    unfolding files wrote told
    draw_files room = go (drawn way l room) refl
      where
        go : (o : Outcome Portion) → drawn way l room ≡ o
            → take (rows_said (ToldDrawn o).0 (ToldDrawn o).1.2 * width) (filled way l room) ≡ take (rows_in o * width) (filled way l room)
        go (refused j p) e = rw (none_said j p written (refused_draw_number l room j p e))
        go (accepted d) e = refl

    draw_keeps : (room : List Float) → in_hand (kept_after way k (draw room written owed)) ≡ handed_back (drawn way l room) l
    unfolding kept_after told
    draw_keeps room = go (drawn way l room)
      where
        go : (o : Outcome Portion) → in_hand ((ToldDrawn o).1.0, (ToldDrawn o).1.1) ≡ handed_back o l
        go (refused j p) = refl
        go (accepted d) = refl

    a_draw : (room : List Float) → Moves way l (files way k (draw room written owed)) (in_hand (kept_after way k (draw room written owed)))
    a_draw room = rw (draw_files room, draw_keeps room) (draw_moves way l room)

    module _ (bytes : List ℕ) (held : Held l) where
      abbrev ToldNext : Outcome NextRow → ℕ × (List ℕ × List Float × List ℕ × ℕ × ℕ)
      ToldNext o = told (kind_next_numbers way k.0 k.1 bytes) o (k.0, k.1, bytes, written, owed)

      a_next_row : Moves way l (files way k (next_row_call bytes written owed)) (in_hand (kept_after way k (next_row_call bytes written owed)))
      unfolding files kept_after told next_row
      a_next_row = go (next_row way l) refl
        where
          last_one : (row : Row) (m : Loan) (none : Bool) → (none ≡ false → 0 < due way l) → next row m ≡ cond none finished (next (row_of way l) (next_of way l))
              → Moves way l (take (1 * width) (places (row_in (row_bytes row)))) m
          last_one row m true f e = let z : ◌≡◌ {A = ℕ} 0 1 = cc in absurd (omega arith)
          last_one row m false f e =
              let h = f refl in
              let a : row ≡ row_of way l = cc in
              let b : m ≡ next_of way l = cc in
              rw (a, b, row_in_record l held h) (one_step (next_of way) (row_places way) (due way) l h)

          go : (o : Outcome NextRow) → next_row way l ≡ o
              → Moves way l (take (rows_said (ToldNext o).0 (ToldNext o).1.3 * width) (places (row_in (ToldNext o).1.2))) (in_hand ((ToldNext o).1.0, (ToldNext o).1.1))
          go (refused j p) e = rw (none_said j p written (refused_next_number l j p e)) (stays (next_of way) (row_places way) (due way) l)
          go (accepted finished) e = stays (next_of way) (row_places way) (due way) l
          go (accepted (next row m)) e =
              last_one row m (eqb (due way l) 0) (λ z. (let n = eqb-false (due way l) 0 z in omega arith)) (accepted_value (state_lines way l) _ (next row m) e)

  -- ---- calls one after the other
  still_held : (l : Loan) (numbers : List Float) (m : Loan) → Moves way l numbers m → Held l → Held m
  still_held l numbers m f h =
      subst Held (sym f.state)
      (record {
        good = ap bad_term (term_after way f.many l) ∙ h.good;
        kind_fits = subst (Fits way) (sym (term_after way f.many l)) h.kind_fits;
        numbers = after_held way f.many l h.numbers;
      })

  a_call : (k : Kept) (c : Call) → Held (in_hand k) → Moves way (in_hand k) (files way k c) (in_hand (kept_after way k c)) × Held (in_hand (kept_after way k c))
  a_call k c h = (moves c, still_held _ _ _ (moves c) h)
    where
      moves : (c : Call) → Moves way (in_hand k) (files way k c) (in_hand (kept_after way k c))
      moves (draw room written owed) = a_draw k written owed room
      moves (next_row_call bytes written owed) = a_next_row k written owed bytes h

  -- ---- an opening, and the calls after it
  -- of an outcome that is refused with no number below 1, and whose loan is as opened
  once_open : (t : Terms) (pay : Float) (before : Kept) (o : Outcome Loan) → T (fits binary64 pay) → T (fits binary64 t.principal)
      → ((k p : ℕ) → o ≡ refused k p → 0 < k) → ((l : Loan) → o ≡ accepted l → kind_opened_with way t pay ≡ accepted l) → RepaysOnceOpen way t (told loan_numbers o before)
  unfolding told
  once_open t pay before (refused k p) pays fit number opens z calls ended = absurd (never_0 k p (number k p refl) z)
  once_open t pay before (accepted l) pays fit number opens z calls ended =
      let own = as_opened_of_any_kind way t pay l fit (opens l refl) in
      let held : Held l = record { good = own.good; kind_fits = own.kind_fits; numbers = record { pays = rw own.pays pays; owes = rw own.owes fit } } in
      let all = filed_to_the_end (next_of way) (row_places way) (due way) (due_after way) in_hand (files way) (kept_after way) (λ (k : Kept). Held (in_hand k)) a_call calls (loan_numbers l) held ended in
      let e : filed way (loan_numbers l) calls ≡ rows way (rows_due way t) l = all ∙ ap (λ (n : ℕ). rows way n l) own.whole in
      (e, rw e own.repaid_by_rows)

  -- what a record's opening is refused with, and what it is where it is accepted
  pub opening_number : (bytes : List ℕ) (pay : Terms → Float) (k p : ℕ) → and_then (read_terms bytes) (λ (t : Terms). kind_opened_with way t (pay t)) ≡ refused k p → 0 < k
  unfolding between
  opening_number bytes pay k p = go (read_terms bytes) refl
    where
      go : (o : Outcome Terms) → read_terms bytes ≡ o → and_then o (λ (t : Terms). kind_opened_with way t (pay t)) ≡ refused k p → 0 < k
      go (refused j q) read e = let n : j ≡ k = cc in let h = (within 0 0x1_0000_0000 (line 11 (bad_record terms_kind terms_size bytes) ∷ []) j q tt ((read_terms_exactly bytes j q).0 read).applies).0 in omega arith
      go (accepted t) read e = (within 0 0x1_0000_0000 (opening_lines way t) k p (kind_numbers way t.term) ((opening_of_any_kind_with_payment_refused_exactly way t (pay t) k p).0 e).applies).0

  pub opening_terms : (bytes : List ℕ) (pay : Terms → Float) (l : Loan) → and_then (read_terms bytes) (λ (t : Terms). kind_opened_with way t (pay t)) ≡ accepted l
      → kind_opened_with way (terms_in bytes) (pay (terms_in bytes)) ≡ accepted l
  unfolding read_terms
  opening_terms bytes pay l = go (read_terms bytes) refl
    where
      go : (o : Outcome Terms) → read_terms bytes ≡ o → and_then o (λ (t : Terms). kind_opened_with way t (pay t)) ≡ accepted l → kind_opened_with way (terms_in bytes) (pay (terms_in bytes)) ≡ accepted l
      go (refused j q) read e = let z : ◌≡◌ {A = ℕ} 0 1 = cc in absurd (omega arith)
      go (accepted t) read e = let is : t ≡ terms_in bytes = accepted_value _ (terms_in bytes) t read in subst (λ (u : Terms). kind_opened_with way u (pay u) ≡ accepted l) is e

pub principal_held_in : (bytes : List ℕ) → T (fits binary64 (terms_in bytes).principal)
unfolding terms_in float_at
principal_held_in bytes = of_bits-fits binary64 _

-- ---- demand 3, of any bytes at all and any kind: with the worked-out payment, and with any given one
pub demand3_at_the_door_of_any_kind : (way : Way) (bytes : List ℕ) (before : Kept) → RepaysOnceOpen way (terms_in bytes) (kind_open_answer way bytes before)
unfolding kind_opened
demand3_at_the_door_of_any_kind way bytes before =
    let pay : Terms → Float = λ t. payment (paying_terms way t) in
    once_open way (terms_in bytes) (pay (terms_in bytes)) before _ (payment_held (paying_terms way (terms_in bytes))) (principal_held_in bytes) (opening_number way bytes pay) (opening_terms way bytes pay)

pub demand3_at_the_door_of_any_kind_given : (way : Way) (bytes : List ℕ) (pay : Float) (before : Kept) → T (fits binary64 pay) → RepaysOnceOpen way (terms_in bytes) (kind_open_with_answer way bytes pay before)
demand3_at_the_door_of_any_kind_given way bytes pay before pays =
    once_open way (terms_in bytes) pay before _ pays (principal_held_in bytes) (opening_number way bytes (λ (t : Terms). pay)) (opening_terms way bytes (λ (t : Terms). pay))

-- of document 01's loan
pub demand3_at_the_door : (bytes : List ℕ) (before : Kept) → RepaysOnceOpen level (terms_in bytes) (open_answer bytes before)
unfolding kind_opened kind_opened_with opened opened_with
demand3_at_the_door bytes before = demand3_at_the_door_of_any_kind level bytes before

pub demand3_at_the_door_given : (bytes : List ℕ) (pay : Float) (before : Kept) → T (fits binary64 pay) → RepaysOnceOpen level (terms_in bytes) (open_with_answer bytes pay before)
unfolding kind_opened_with opened_with
demand3_at_the_door_given bytes pay before pays = demand3_at_the_door_of_any_kind_given level bytes pay before pays

-- ---- the answers are those that the contracts promise, as the kit reads them: of the result x and of what the lent places hold after the call
pub open_answers : (κs : Lfts 3) (a : Dens κs open_kinds.ps) (x : (res_t open_kinds.r κs).Denot) (w : Lasts (ended_of 3 open_kinds.ps open_kinds.r) κs a)
    → open_reads.Post κs a x (at_exit (ended_of 3 open_kinds.ps open_kinds.r) κs a w)
    → ◌≡◌ {A = ℕ × Kept} (x, (w.1.0, w.1.1.0)) (open_answer a.0.now (a.1.0.now, a.1.1.0.now))
open_answers κs a x w p = p

pub open_with_payment_answers : (κs : Lfts 3) (a : Dens κs open_with_kinds.ps) (x : (res_t open_with_kinds.r κs).Denot) (w : Lasts (ended_of 3 open_with_kinds.ps open_with_kinds.r) κs a)
    → open_with_reads.Post κs a x (at_exit (ended_of 3 open_with_kinds.ps open_with_kinds.r) κs a w)
    → ◌≡◌ {A = ℕ × Kept} (x, (w.1.1.0, w.1.1.1.0)) (open_with_answer a.0.now a.1.0 (a.1.1.0.now, a.1.1.1.0.now))
open_with_payment_answers κs a x w p = p

-- of a draw also the room
pub draw_answers : (κs : Lfts 5) (a : Dens κs draw_kinds.ps) (x : (res_t draw_kinds.r κs).Denot) (w : Lasts (ended_of 5 draw_kinds.ps draw_kinds.r) κs a)
    → draw_reads.Post κs a x (at_exit (ended_of 5 draw_kinds.ps draw_kinds.r) κs a w)
    → (◌≡◌ {A = ℕ × (List ℕ × List Float × ℕ × ℕ)} (x, (w.0, w.1.0, w.1.1.1.0, w.1.1.1.1.0))
    (draw_answer level (a.0.now, a.1.0.now) a.1.1.0.now a.1.1.1.0.now a.1.1.1.1.0.now))
    × (w.1.1.0 ≡ filled level (in_hand (a.0.now, a.1.0.now)) a.1.1.0.now)
draw_answers κs a x w p = p

pub next_row_answers : (κs : Lfts 5) (a : Dens κs next_row_kinds.ps) (x : (res_t next_row_kinds.r κs).Denot) (w : Lasts (ended_of 5 next_row_kinds.ps next_row_kinds.r) κs a)
    → next_row_reads.Post κs a x (at_exit (ended_of 5 next_row_kinds.ps next_row_kinds.r) κs a w)
    → ◌≡◌ {A = ℕ × (List ℕ × List Float × List ℕ × ℕ × ℕ)} (x, (w.0, w.1.0, w.1.1.0, w.1.1.1.0, w.1.1.1.1.0))
    (next_answer level (a.0.now, a.1.0.now) a.1.1.0.now a.1.1.1.0.now a.1.1.1.1.0.now)
next_row_answers κs a x w p = p
