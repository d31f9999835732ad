-- Draws one after the other of a loan of any kind, each handed the loan that the one before handed back, by the laws of calls: what they filed are the next rows of the loan, refused draws
-- in between change nothing, portions to the end are the rows of one draw, and as many rooms with a whole row as rows are due finish the loan. Assumes nothing.
use mathlib.Core.Path.{◌≡◌, refl, sym, ap, ◌∙◌, subst}
use mathlib.Core.Bool.{false}
use mathlib.Core.List.{List, ◌∷◌}
use Prim.Native.Nat.{ℕ, ◌-◌, ◌*◌, ◌≤◌}
use native.Mathlib.Omega.{arith}
use lib.ListN.{length}
use lib.Ieee.{Float}
use Rattle.refusals.specs.Outcome.{refused, accepted}
use Rattle.refusals.specs.Table.{bad_amount, bad_term}
use Rattle.refusals.proofs.Verdicts.{accepted_value, accepts_whatever}
use Rattle.mortgage.proofs.TermsLaws.{terms_passed}
use Rattle.records.specs.declared.Terms.{Terms}
use Rattle.steps.specs.Calls.{roomy}
use Rattle.steps.proofs.Calls as calls
use Rattle.mortgage.specs.declared.Loan.{Loan}
use Rattle.mortgage.specs.Row.{width}
use Rattle.mortgage.specs.Kinds.{Way, level, interest_only, balloon, adjustable, course_of, kind_lines}
use Rattle.mortgage.specs.Payment.{loan_of, opened_with}
use Rattle.mortgage.specs.Openings.{starting_terms, opening_lines, kind_opened_with}
use Rattle.mortgage.specs.Month.{end_month, due, next_of}
use Rattle.mortgage.specs.Rows.{rows}
use Rattle.mortgage.specs.Draws.{count, drawn}
use Rattle.mortgage.specs.Demand3.{rows_in, hands_back, wrote, filed, left, rows_due}
use Rattle.mortgage.specs.Level as of_level
use Rattle.mortgage.proofs.RowLaws.{term_after, due_after}
use Rattle.mortgage.proofs.DrawCases.{row_places, Fits}
use Rattle.mortgage.proofs.DrawLaws.{wrote_is, rows_within, rows_drawn, handed_back_lem}

module _ (way : Way) where
  -- ---- the next so many rows of a loan in hand, no more than are due, and the loan after them: whatever calls wrote them
  abbrev pub Moves : Loan → List Float → Loan → Type 0
  Moves = calls.Moves (next_of way) (row_places way) (due way)

  -- one draw, accepted or refused
  pub draw_moves : (l : Loan) (room : List Float) → Moves l (wrote way l room) (hands_back way l room)
  draw_moves l room = record { many = rows_in (drawn way l room); by_the_rule_lem = wrote_is way l room; state = handed_back_lem way l room; within = rows_within way l room }

  -- ---- whatever rooms a loan in hand is drawn into to its end, its rows from here to the end are filed
  pub filed_to_the_end : (l : Loan) (rooms : List (List Float)) → due way (left way l rooms) ≡ 0 → filed way l rooms ≡ rows way (due way l) l
  filed_to_the_end l rooms z =
      calls.filed_to_the_end (next_of way) (row_places way) (due way) (due_after way) (λ (m : Loan). m) (wrote way) (hands_back way) (λ (m : Loan). record {}) (λ m room good. (draw_moves m room, good))
      rooms l record {} z

  -- ---- a refused draw may stand anywhere
  pub refused_draw_changes_nothing : (l : Loan) (room : List Float) (rooms : List (List Float)) (k p : ℕ) → drawn way l room ≡ refused k p
      → (filed way l (room ∷ rooms) ≡ filed way l rooms) × (left way l (room ∷ rooms) ≡ left way l rooms)
  unfolding wrote
  refused_draw_changes_nothing l room rooms k p e = calls.idle_call (wrote way) (hands_back way) l room rooms (rw e) (rw e)

  -- ---- of a term that is acceptable, to the kind as well
  abbrev Good : Loan → Type 0
  Good l = (bad_term l.term ≡ false) × Fits way l.term

  -- those of one draw into a room that holds them all
  pub portions_are_one : (l : Loan) (rooms : List (List Float)) (big : List Float) → bad_term l.term ≡ false → Fits way l.term → due way (left way l rooms) ≡ 0 → due way l * width ≤ length big
      → filed way l rooms ≡ wrote way l big
  portions_are_one l rooms big good fits z b =
      let e : due way l ≡ rows_in (drawn way l big) = omega (arith, rows_drawn way l big good fits) in
      filed_to_the_end l rooms z ∙ ap (λ (k : ℕ). rows way k l) e ∙ sym (wrote_is way l big)

  -- ---- how many draws are enough: a draw takes the rows that are due and fit off those due, and the term stays good
  a_draw : (l : Loan) (room : List Float) → Good l → (due way (hands_back way l room) ≡ due way l - count way l (length room)) × Good (hands_back way l room)
  a_draw l room good =
      let k : ℕ = rows_in (drawn way l room) in
      let term : (hands_back way l room).term ≡ l.term = ap (λ (m : Loan). m.term) (handed_back_lem way l room) ∙ term_after way k l in (
        ap (due way) (handed_back_lem way l room) ∙ due_after way k l ∙ ap (λ (n : ℕ). due way l - n) (rows_drawn way l room good.0 good.1),
        (ap bad_term term ∙ good.0, subst (Fits way) (sym term) good.1),
      )

  -- as many rooms with a whole row as rows are due finish the loan, whatever rooms are between them
  pub rooms_enough : (rooms : List (List Float)) (l : Loan) → bad_term l.term ≡ false → Fits way l.term → due way l ≤ roomy width rooms → due way (left way l rooms) ≡ 0
  rooms_enough rooms l good fits = calls.rooms_enough (due way) (hands_back way) Good width (omega arith) a_draw rooms l (good, fits)

  -- ---- from an opening: what its lines say, and what the loan starts with
  module _ (t : Terms) where
    pub starting_term : (starting_terms way t).term ≡ t.term
    starting_term = go way
      where
        go : (w : Way) → (starting_terms w t).term ≡ t.term
        go level = refl
        go (interest_only months) = refl
        go (balloon month) = refl
        go (adjustable a index) = refl

    pub starting_principal : (starting_terms way t).principal ≡ t.principal
    starting_principal = go way
      where
        go : (w : Way) → (starting_terms w t).principal ≡ t.principal
        go level = refl
        go (interest_only months) = refl
        go (balloon month) = refl
        go (adjustable a index) = refl

    -- its rows are all due
    pub all_due : (pay : Float) → due way (loan_of (starting_terms way t) pay) ≡ rows_due way t
    unfolding due end_month loan_of
    all_due pay =
        let e : (course_of way (starting_terms way t).term).end ≡ rows_due way t = ap (λ (n : ℕ). (course_of way n).end) starting_term in
        omega (arith, e)

    module _ (pay : Float) (l : Loan) (e : kind_opened_with way t pay ≡ accepted l) where
      pub loan_opened : l ≡ loan_of (starting_terms way t) pay
      unfolding kind_opened_with
      loan_opened = accepted_value (opening_lines way t) (loan_of (starting_terms way t) pay) l e

      pub lines_passed : (bad_amount t.principal ≡ false) × (bad_term t.term ≡ false) × Fits way t.term
      unfolding kind_opened_with
      lines_passed =
          let v = loan_of (starting_terms way t) pay in
          let w = terms_passed t (kind_lines way t.term) v l e in
          (w.0, w.1, accepts_whatever (kind_lines way t.term) v l w.2)

      -- "Since a draw with room writes at least one row, n draws are enough", n the rows due
      pub enough_draws_of_any_kind : (rooms : List (List Float)) → rows_due way t ≤ roomy width rooms → due way (left way l rooms) ≡ 0
      unfolding loan_of
      enough_draws_of_any_kind rooms h =
          let term : l.term ≡ t.term = ap (λ (m : Loan). m.term) loan_opened ∙ starting_term in
          let whole : due way l ≡ rows_due way t = ap (due way) loan_opened ∙ all_due pay in
          rooms_enough rooms l (ap bad_term term ∙ lines_passed.1) (subst (Fits way) (sym term) lines_passed.2) (omega (arith, whole))

-- ---- document 01's loan: an opening of the level kind is its opening
pub opened_level : (t : Terms) (pay : Float) → kind_opened_with level t pay ≡ opened_with t pay
unfolding kind_opened_with opened_with
opened_level t pay = refl

pub term_accepted : (t : Terms) (pay : Float) (l : Loan) → opened_with t pay ≡ accepted l → bad_term t.term ≡ false
term_accepted t pay l e = (lines_passed level t pay l (opened_level t pay ∙ e)).1

pub enough_draws : (t : Terms) (pay : Float) (l : Loan) → opened_with t pay ≡ accepted l → (rooms : List (List Float)) → t.term ≤ roomy width rooms → of_level.due (of_level.left l rooms) ≡ 0
enough_draws t pay l e = enough_draws_of_any_kind level t pay l (opened_level t pay ∙ e)
