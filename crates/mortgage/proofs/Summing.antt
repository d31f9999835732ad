-- Draws with year-end lines one after the other of a loan of any kind, each handed the loan and the lines that the one before left, by the laws of calls: whatever the portions, refused draws among them, they leave
-- the lines that one draw leaves; and from an opening the line of each year with a row is the definition's, over the rows filed alone, a lookup gives it, and any other year is refused with 14.
-- Assumes nothing.
use mathlib.Core.Path.{◌≡◌, refl, sym, ap, ◌∙◌, subst}
use mathlib.Core.Logic.{inl, inr}
use mathlib.Core.Bool.{false}
use mathlib.Core.List.{List, ◌∷◌}
use Prim.Native.Nat.{ℕ, zero, suc, ◌+◌, ◌-◌, ◌*◌, ◌/◌, ◌<◌, ◌≤◌, min}
use native.Mathlib.Omega.{arith}
use lib.IntN.{pos}
use lib.ListN.{length, get_or, take, drop}
use lib.Seq.{take_at}
use lib.Dec.{T}
use lib.Ieee.{Float, nan, binary64, fits, of_int}
use borrow.Author.Tests.{le-ltb}
use Rattle.numbers.proofs.Sums.{same_added}
use Rattle.refusals.specs.Outcome.{Outcome, refused, accepted}
use Rattle.refusals.specs.Table.{bad_term, too_few_lines}
use Rattle.records.specs.declared.Row.{Row}
use Rattle.records.specs.declared.Terms.{Terms}
use Rattle.steps.specs.Steps.{stepped, written}
use Rattle.steps.proofs.Portions.{pieces_same}
use Rattle.steps.proofs.Columns.{column}
use Rattle.steps.proofs.Calls as calls
use Rattle.mortgage.specs.declared.Loan.{Loan}
use Rattle.mortgage.specs.declared.draws.Portion.{Portion}
use Rattle.mortgage.specs.Row.{width, principal_place, interest_place, balance_place}
use Rattle.mortgage.specs.Kinds.{Way, level, bad_end}
use Rattle.mortgage.specs.Payment.{payment, loan_of, opened_with, opened}
use Rattle.mortgage.specs.Openings.{paying_terms, kind_opened_with, kind_opened}
use Rattle.mortgage.specs.Month.{end_month, due, row_of, next_of}
use Rattle.mortgage.specs.Rows.{after, rows}
use Rattle.mortgage.specs.Draws.{filled_by}
use Rattle.mortgage.specs.Demand3.{rows_in, handed_back, rows_due, Repaid}
use Rattle.mortgage.specs.Years.{started_years, year_line, year_width, year_at, unbegun, entered, entered_up_to}
use Rattle.mortgage.specs.YearDraws.{fewer_than_started, drawn_with_years, filled_with_years, years_after, years_by, summed, looked_up}
use Rattle.mortgage.specs.inner.RoomRows.{with_rows}
use Rattle.mortgage.specs.Level as of_level
use Rattle.mortgage.specs.Summary.{Kept, wrote_with_years, kept_after, filed_with_years, kept, years_begun, SumsUp}
use Rattle.mortgage.proofs.RowLaws.{term_after, end_after, done_after, due_after}
use Rattle.mortgage.proofs.DrawCases.{row_places, wide, Fits, fits_end, fits_ends}
use Rattle.mortgage.proofs.DrawLaws.{length_rows, written_within, hands_on}
use Rattle.mortgage.proofs.Sequences.{starting_term, loan_opened, lines_passed, opened_level}
use Rattle.mortgage.proofs.Demand3.{as_opened_of_any_kind}
use Rattle.mortgage.proofs.YearLaws.{year_by, length_entered, line_of_its_rows, interest_added, principal_added, last_balance, months_counted}
use Rattle.mortgage.proofs.YearCases.{lookup_year_0, lookup_no_row, lookup_found}
use Rattle.mortgage.proofs.YearDrawLaws.{month_of_row, as_the_plain_draw}

module _ (way : Way) where
  -- ---- loan and lines step together
  abbrev onward : Kept → Kept
  onward k = (next_of way k.0, entered (row_of way k.0) k.1)

  abbrev shows : Kept → List Float
  shows k = row_places way k.0

  abbrev due_of : Kept → ℕ
  due_of k = due way k.0

  stepped_is : (n : ℕ) (k : Kept) → stepped onward n k ≡ (after way n k.0, years_after way n k.0 k.1)
  unfolding stepped entered_up_to
  stepped_is zero k = refl
  stepped_is (suc n) k = ap onward (stepped_is n k)

  written_are : (n : ℕ) (k : Kept) → written onward shows n k ≡ rows way n k.0
  written_are n k = pieces_same (λ (i : ℕ). shows (stepped onward i k)) (λ (i : ℕ). row_places way (after way i k.0)) n (λ i h. ap shows (stepped_is i k))

  due_onward : (n : ℕ) (k : Kept) → due_of (stepped onward n k) ≡ due_of k - n
  due_onward n k = ap due_of (stepped_is n k) ∙ due_after way n k.0

  abbrev Moves : Kept → List Float → Kept → Type 0
  Moves = calls.Moves onward shows due_of

  -- ---- one draw, accepted or refused
  draw_moves : (k : Kept) (room : List Float) → Moves k (wrote_with_years way k room) (kept_after way k room)
  unfolding wrote_with_years filled_with_years summed
  draw_moves k room = go (drawn_with_years way k.0 room k.1) refl
    where
      go : (o : Outcome Portion) → drawn_with_years way k.0 room k.1 ≡ o → Moves k (take (rows_in o * width) (filled_by way o k.0 room)) (handed_back o k.0, years_by way o k.0 k.1)
      go (refused j p) e = calls.stays onward shows due_of k
      go (accepted d) e =
          let l : Loan = k.0 in
          let n : ℕ = d.written in
          let plain = as_the_plain_draw way l room k.1 d e in
          record {
            many = n;
            by_the_rule_lem = take_at (rows way n l) (drop (n * width) room) (n * width) (length_rows way n l) ∙ sym (written_are n k);
            state = ap (λ (m : Loan). (m, years_after way n l k.1)) (hands_on way l room d plain) ∙ sym (stepped_is n k);
            within = written_within way l room d plain;
          }

  -- ---- draws one after the other
  all_move : (rooms : List (List Float)) (k : Kept) → Moves k (filed_with_years way k rooms) (kept way k rooms)
  all_move rooms k = calls.filed_moves onward shows due_of due_onward (λ (m : Kept). m) (wrote_with_years way) (kept_after way) (λ (m : Kept). record {}) (λ m room good. (draw_moves m room, good)) rooms k record {}

  -- "Drawing in portions must give the same summary as one draw": whatever the rooms, any loan and any lines, made-up ones too
  pub as_one_draw : (k : Kept) (rooms : List (List Float)) (room : List Float) → due way (kept way k rooms).0 ≡ due way (kept_after way k room).0
      → (kept way k rooms ≡ kept_after way k room) × (filed_with_years way k rooms ≡ wrote_with_years way k room)
  as_one_draw k rooms room e = calls.moved_alike onward shows due_of due_onward k _ _ _ _ (all_move rooms k) (draw_moves k room) e

  -- a refused draw may stand anywhere
  pub refused_changes_nothing : (k : Kept) (room : List Float) (rooms : List (List Float)) (j p : ℕ) → drawn_with_years way k.0 room k.1 ≡ refused j p
      → (filed_with_years way k (room ∷ rooms) ≡ filed_with_years way k rooms) × (kept way k (room ∷ rooms) ≡ kept way k rooms)
  unfolding wrote_with_years filled_with_years summed
  refused_changes_nothing k room rooms j p e = calls.idle_call (wrote_with_years way) (kept_after way) k room rooms (rw e) (rw e)

  -- draws to the end file the loan's rows
  pub filed_to_the_end : (k : Kept) (rooms : List (List Float)) → due way (kept way k rooms).0 ≡ 0 → filed_with_years way k rooms ≡ rows way (due way k.0) k.0
  filed_to_the_end k rooms z = calls.moved_to_the_end onward shows due_of due_onward k _ _ (all_move rooms k) z ∙ written_are (due way k.0) k

  -- ---- n rows of a loan that no month is done of
  module _ (l : Loan) (none : l.done ≡ 0) (years : List Float) (n : ℕ) (lent : started_years n * year_width ≤ length years) where
    abbrev numbers : List Float
    numbers = rows way n l

    rows_filed : length numbers / width ≡ n
    rows_filed = omega (arith, length_rows way n l)

    -- the line of a year is the definition's
    module _ (year : ℕ) (some : 0 < year) (begun : year ≤ started_years n) where
      abbrev before : ℕ
      before = (year - 1) * 12

      abbrev months : ℕ
      months = min 12 (n - before)

      abbrev row_of_year : ℕ → Row
      row_of_year i = row_of way (after way (before + i) l)

      within : (i : ℕ) → i < months → before + i < n
      within i h = omega arith

      in_place : (i j : ℕ) → i < months → j < width → get_or (row_places way (after way (before + i) l)) j nan ≡ get_or numbers ((before + i) * width + j) nan
      in_place i j h b = sym (column (next_of way) (row_places way) width (wide way) n l (before + i) j nan (within i h) b)

      of_its_rows : year_at (years_after way n l years) (year - 1) ≡ with_rows row_of_year months unbegun
      of_its_rows = line_of_its_rows (λ (i : ℕ). row_of way (after way i l)) (λ (i : ℕ). month_of_row way l i ∙ rw none (omega arith)) years n (year - 1) (omega arith) lent

      definition_is : with_rows row_of_year months unbegun ≡ year_line numbers year
      unfolding year_line
      definition_is =
          rw rows_filed
          (year_by (with_rows row_of_year months unbegun) (of_int binary64 (pos months)) _ _ _
          (months_counted row_of_year months (omega arith))
          (interest_added row_of_year months ∙ same_added (λ (i : ℕ). (row_of_year i).interest) _ months (λ i h. in_place i interest_place h (omega arith)))
          (principal_added row_of_year months ∙ same_added (λ (i : ℕ). (row_of_year i).principal) _ months (λ i h. in_place i principal_place h (omega arith)))
          (last_balance row_of_year months (omega arith) ∙ in_place (months - 1) balance_place (omega arith) (omega arith)))

      pub line_of_year : year_at (years_after way n l years) (year - 1) ≡ year_line numbers year
      line_of_year = of_its_rows ∙ definition_is

    -- and a lookup gives it, or is refused
    module _ (good : bad_term l.term ≡ false) (most : n ≤ end_month way l) (ends : bad_end way l.term ≡ false) (enough : started_years l.term * year_width ≤ length years) where
      abbrev m : Loan
      m = after way n l

      abbrev lines : List Float
      lines = years_after way n l years

      good_still : bad_term m.term ≡ false
      good_still = ap bad_term (term_after way n l) ∙ good

      enough_still : fewer_than_started m (length lines) ≡ false
      unfolding too_few_lines
      enough_still =
          rw (term_after way n l, length_entered (λ (i : ℕ). row_of way (after way i l)) n years) (le-ltb (length years / year_width) (started_years l.term) (omega arith))

      done_is : m.done ≡ n
      done_is = done_after way n l ∙ rw none (omega arith)

      not_past : m.done ≤ end_month way m
      not_past = omega (arith, done_is, end_after way n l)

      pub sums_up : SumsUp way (m, lines) numbers
      sums_up = record {
        line_is = λ year some begun. line_of_year year some (as_begun year begun);
        year_found = λ year some begun. found year some (as_begun year begun);
        year_refused = λ year other. elim other [
          | inl z ↦ sym (lookup_year_0 way m lines year good_still enough_still not_past z)
          | inr h ↦ sym (lookup_no_row way m lines year good_still enough_still not_past (λ z. omega arith) (rw done_is (as_not_begun year h)))
        ];
      }
        where
          as_begun : (year : ℕ) → year ≤ years_begun numbers → year ≤ started_years n
          as_begun year h = omega (arith, rows_filed)

          as_not_begun : (year : ℕ) → years_begun numbers < year → started_years n < year
          as_not_begun year h = omega (arith, rows_filed)

          found : (year : ℕ) → 0 < year → year ≤ started_years n → looked_up way m lines year ≡ accepted (year_line numbers year)
          found year some begun =
              sym (lookup_found way m lines year good_still enough_still not_past (λ z. omega arith) (rw done_is begun) (rw (term_after way n l) ends)) ∙ ap accepted (line_of_year year some begun)

  -- ---- from an opening, whatever the rooms
  module _ (t : Terms) (pay : Float) (l : Loan) (e : kind_opened_with way t pay ≡ accepted l) (years : List Float) where
    -- draws to the end repay it
    pub repaid_beside_lines_of_any_kind : T (fits binary64 t.principal) → (rooms : List (List Float)) → due way (kept way (l, years) rooms).0 ≡ 0
        → (filed_with_years way (l, years) rooms ≡ rows way (rows_due way t) l) × Repaid t.principal (rows_due way t) (filed_with_years way (l, years) rooms)
    repaid_beside_lines_of_any_kind fit rooms z =
        let own = as_opened_of_any_kind way t pay l fit e in
        let all : filed_with_years way (l, years) rooms ≡ rows way (rows_due way t) l = filed_to_the_end (l, years) rooms z ∙ ap (λ (n : ℕ). rows way n l) own.whole in
        (all, rw all own.repaid_by_rows)

    -- and the lines sum up what was filed
    pub summed_up_of_any_kind : started_years t.term * year_width ≤ length years → (rooms : List (List Float)) → SumsUp way (kept way (l, years) rooms) (filed_with_years way (l, years) rooms)
    unfolding loan_of due
    summed_up_of_any_kind enough rooms =
        let is = loan_opened way t pay l e in
        let lines = lines_passed way t pay l e in
        let term : l.term ≡ t.term = ap (λ (x : Loan). x.term) is ∙ starting_term way t in
        let none : l.done ≡ 0 = ap (λ (x : Loan). x.done) is in
        let f = all_move rooms (l, years) in
        let n : ℕ = f.many in
        let kind_fits : Fits way l.term = subst (Fits way) (sym term) lines.2 in
        let ends : end_month way l ≤ l.term = fits_ends way l kind_fits in
        let most : n ≤ end_month way l = omega (arith, f.within) in
        let lent : started_years l.term * year_width ≤ length years = rw term enough in
        let good : bad_term l.term ≡ false = ap bad_term term ∙ lines.1 in
        rw (f.state, stepped_is n (l, years), f.by_the_rule_lem, written_are n (l, years)) (sums_up l none years n (omega arith) good most (fits_end way l.term kind_fits) lent)

  pub summed_up_of_any_kind_worked_out : (t : Terms) (l : Loan) → kind_opened way t ≡ accepted l → (years : List Float) → started_years t.term * year_width ≤ length years
      → (rooms : List (List Float)) → SumsUp way (kept way (l, years) rooms) (filed_with_years way (l, years) rooms)
  unfolding kind_opened
  summed_up_of_any_kind_worked_out t l e = summed_up_of_any_kind t (payment (paying_terms way t)) l e

-- ---- of document 01's loan
pub repaid_beside_lines : (t : Terms) (pay : Float) (l : Loan) → T (fits binary64 t.principal) → opened_with t pay ≡ accepted l → (years : List Float) (rooms : List (List Float))
    → of_level.due (of_level.kept (l, years) rooms).0 ≡ 0
    → (of_level.filed_with_years (l, years) rooms ≡ of_level.rows t.term l) × Repaid t.principal t.term (of_level.filed_with_years (l, years) rooms)
repaid_beside_lines t pay l fit e years = repaid_beside_lines_of_any_kind level t pay l (opened_level t pay ∙ e) years fit

pub summed_up : (t : Terms) (pay : Float) (l : Loan) → opened_with t pay ≡ accepted l → (years : List Float) → started_years t.term * year_width ≤ length years
    → (rooms : List (List Float)) → of_level.SumsUp (of_level.kept (l, years) rooms) (of_level.filed_with_years (l, years) rooms)
summed_up t pay l e = summed_up_of_any_kind level t pay l (opened_level t pay ∙ e)

pub summed_up_worked_out : (t : Terms) (l : Loan) → opened t ≡ accepted l → (years : List Float) → started_years t.term * year_width ≤ length years
    → (rooms : List (List Float)) → of_level.SumsUp (of_level.kept (l, years) rooms) (of_level.filed_with_years (l, years) rooms)
unfolding opened
summed_up_worked_out t l e = summed_up t (payment t) l e
