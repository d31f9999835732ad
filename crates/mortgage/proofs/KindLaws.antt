-- The kinds of a loan: line 16 of the table as each meets it; what an adjustable loan is given for a month; its rows due, its lines and its next row by its course; and its opening. Assumes nothing.
use mathlib.Core.Path.{◌≡◌, refl, sym, ap, ◌∙◌}
use mathlib.Core.Bool.{Bool, true, false, not, cond, ◌&&◌, ◌||◌}
use mathlib.Core.List.{List, [], ◌∷◌}
use Prim.Native.Nat.{ℕ, ◌-◌, ◌<◌, ◌≤◌, ◌%◌}
use native.Mathlib.Omega.{arith}
use lib.Dec.{eqb, ltb, leb}
use lib.ListN.{length, length-take}
use lib.Ieee.{Float}
use borrow.Author.Tests.{ltb-true, ltb-false, eqb-true, lt-ltb, le-ltb, le-leb, lt-leb, eq-eqb, ne_eqb}
use Rattle.refusals.specs.declared.Refusal.{Refusal}
use Rattle.refusals.specs.Outcome.{refused, accepted, Line, line, alone, first_or, judged}
use Rattle.refusals.specs.Table.{bad_term, past_end, bad_initial, bad_cap, too_few_entries, bad_entry}
use Rattle.refusals.proofs.Verdicts.{verdict, refused_by, accepted_by}
use Rattle.refusals.proofs.OneCause.{caused, clear, all_clear}
use Rattle.refusals.proofs.LaterLines.{refused_first, accepted_first}
use Rattle.refusals.proofs.Placing.{refused_at, by_position}
use Rattle.std.specs.Prelude.{position, Some, None}
use Rattle.numbers.specs.Whole.{largest}
use Rattle.records.specs.declared.Row.{Row}
use Rattle.records.specs.declared.Terms.{Terms}
use Rattle.mortgage.specs.declared.Loan.{Loan}
use Rattle.mortgage.specs.declared.kinds.Adjustment.{Adjustment}
use Rattle.mortgage.specs.declared.kinds.Course.{Course}
use Rattle.mortgage.specs.declared.kinds.Kind.{Kind}
use Rattle.mortgage.specs.declared.kinds.Kind.TheVariants as kind_is
use Rattle.mortgage.specs.declared.rates.Coming.{Coming}
use Rattle.mortgage.specs.Terms.{terms_lines}
use Rattle.mortgage.specs.Payment.{payment, loan_of}
use Rattle.mortgage.specs.Kinds.{Way, adjustable, way_of, course_of, later_years, entries_read, bad_adjustment, kind_lines}
use Rattle.mortgage.specs.Rates.{begins_later_year, adjusted_to, in_force}
use Rattle.mortgage.specs.Openings.{starting_terms, kind_opened_with}
use Rattle.mortgage.specs.Month.{row_on, next_on, end_month, due, row_of, next_of}
use Rattle.mortgage.specs.Rows.{finished, next, state_lines, next_row}
use Rattle.mortgage.specs.inner.Coming.{coming_behind, with_coming, Listed}
use Rattle.mortgage.proofs.RowLaws.{in_force_done}
use Rattle.std.specs.declared.result.Result.TheVariants.{Ok, Err}
use Rattle.std.specs.declared.result.Result.{Result}
use Rattle.refusals.specs.Answers.{number, outcome}

-- a number that is at least another
pub at_least : (a b : ℕ) → leb a b ≡ not (ltb b a)
at_least a b = go (ltb b a) (ltb-true b a) (ltb-false b a)
  where
    go : (t : Bool) → (t ≡ true → b < a) → (t ≡ false → a ≤ b) → leb a b ≡ not t
    go true f g = lt-leb a b (f refl)
    go false f g = le-leb a b (g refl)

-- ---- line 16
-- a line whose single causes stand before those of a list
single_first : (k : ℕ) (b : Bool) (bs : List Bool) → verdict ((record { number = k; causes = alone b bs }) ∷ []) ≡ cond b (refused k 0) (verdict ((record { number = k; causes = bs }) ∷ []))
unfolding judged first_or
single_first k true [] = refl
single_first k true (x ∷ bs) = refl
single_first k false [] = refl
single_first k false (x ∷ bs) = refl

-- as an adjustable loan meets it: what it names alone and a list too short, and then the first entry that is not finite
pub adjustment_judged : (a : Adjustment) (index : List Float) (term : ℕ) → later_years term ≤ largest
    → verdict (bad_adjustment a index term ∷ [])
    ≡ cond (bad_initial a.initial || bad_cap a.cap || bad_cap a.lifetime || too_few_entries (later_years term) (length index)) (refused 16 0) (refused_at 16 bad_entry (position bad_entry (entries_read index term)))
adjustment_judged a index term h =
    single_first 16 _ _ ∙ ap (cond _ (refused 16 0)) (by_position 16 bad_entry (entries_read index term) (simp length-take (omega arith)))

-- as a kind meets it that has one cause
module _ (ls : List Line) (x b : Bool) (is : ls ≡ line 16 x ∷ []) (asked : b ≡ x) where
  pub cause_met : b ≡ true → refused 16 0 ≡ verdict ls
  cause_met e = caused tt 16 x [] (sym asked ∙ e) ∙ ap verdict (sym is)

  pub cause_not_met : b ≡ false → accepted tt ≡ verdict ls
  cause_not_met e = all_clear tt 16 x (sym asked ∙ e) ∙ ap verdict (sym is)

-- ---- what an adjustable loan is given
-- which months begin a later year
pub later_year : (done : ℕ) → begins_later_year done ≡ true → (0 < done) × (done % 12 ≡ 0)
later_year done e = go (ltb 0 done) (eqb (done % 12) 0) (ltb-true 0 done) (eqb-true (done % 12) 0) e
  where
    go : (s t : Bool) → (s ≡ true → 0 < done) → (t ≡ true → done % 12 ≡ 0) → (s && t) ≡ true → (0 < done) × (done % 12 ≡ 0)
    go true true f g h = (f refl, g refl)
    go true false f g h = let z : ◌≡◌ {A = ℕ} 0 1 = cc in absurd (omega arith)
    go false t f g h = let z : ◌≡◌ {A = ℕ} 0 1 = cc in absurd (omega arith)

-- where another month is due, what comes behind the months done is what is given for it
either : (b : Bool) (coming : Coming) (l m : Loan) → with_coming (Some coming) l ≡ m → with_coming (cond (b && true) (Some coming) None) l ≡ cond b m l
either true coming l m e = e
either false coming l m e = refl

pub coming_given : (a : Adjustment) (index : List Float) (l : Loan) → l.done < l.term → with_coming (coming_behind a l.rate l.done l.term index) l ≡ in_force (adjustable a index) l
unfolding in_force adjusted_to payment
coming_given a index l h = rw (lt-ltb l.done l.term h) (either (begins_later_year l.done) _ l _ refl)

pub adjustable_listed : (kind : Kind) (a : Adjustment) (index : List Float) (term : ℕ) → kind ≡ kind_is.Adjustable a → Listed (way_of kind index) term → later_years term ≤ length index
adjustable_listed kind a index term k h = rw k at h

-- ---- the course of a loan's kind
module _ (way : Way) (l : Loan) (c : Course) (on : c ≡ course_of way l.term) where
  -- the rows that are due
  pub past_no_rows : c.end < l.done → 0 ≡ due way l
  unfolding due end_month
  past_no_rows h = let g : (course_of way l.term).end < l.done = rw on at h in omega arith

  pub rows_left : c.end - l.done ≡ due way l
  unfolding due end_month
  rows_left = rw on

  -- lines 2, 10 and 16 of a loan in hand
  module _ (b : Bool) (asked : b ≡ bad_term l.term) where
    past_is : (t : Bool) → ltb c.end l.done ≡ t → past_end (end_month way l) l.done ≡ t
    unfolding past_end end_month
    past_is t e = ap (λ (d : Course). ltb d.end l.done) (sym on) ∙ e

    pub state_past : b ≡ false → c.end < l.done → refused 10 0 ≡ verdict (state_lines way l)
    state_past e h =
        caused tt 10 (past_end (end_month way l) l.done) (kind_lines way l.term) (past_is true (lt-ltb c.end l.done h))
        ∙ clear tt 2 (bad_term l.term) _ (sym asked ∙ e)

    pub state_of_kind : b ≡ false → l.done ≤ c.end → verdict (kind_lines way l.term) ≡ verdict (state_lines way l)
    state_of_kind e h =
        clear tt 10 (past_end (end_month way l) l.done) (kind_lines way l.term) (past_is false (le-ltb c.end l.done h))
        ∙ clear tt 2 (bad_term l.term) _ (sym asked ∙ e)

  -- a month on it, with what its kind gives for it
  module _ (m : Loan) (given : m ≡ in_force way l) where
    pub given_due : l.done < end_month way l → m.done < c.end
    unfolding end_month
    given_due h = rw (given, on, in_force_done way l) h

    pub month_given : (row : Row) (after : Loan) → (row ≡ row_on c m) × (after ≡ next_on c m) → (row ≡ row_of way l) × (after ≡ next_of way l)
    unfolding row_of next_of
    month_given row after e = (e.0 ∙ rw (given, on), e.1 ∙ rw (given, on))

-- ---- the next row alone, of a loan whose lines have no cause and which has so many rows due
module _ (way : Way) (l : Loan) (n : ℕ) (many : n ≡ due way l) where
  pub still_due : (n ≡ 0 → ⊥) → l.done < end_month way l
  unfolding due
  still_due h = omega (arith, h)

  module _ (x : Result Unit Refusal) (e : outcome x ≡ verdict (state_lines way l)) (h : x ≡ (Ok tt)) where
    judged_next : (t : Bool) → eqb (due way l) 0 ≡ t → accepted (cond t finished (next (row_of way l) (next_of way l))) ≡ next_row way l
    unfolding next_row
    judged_next t d =
        ap (λ (b : Bool). accepted (cond b finished (next (row_of way l) (next_of way l)))) (sym d)
        ∙ accepted_by (state_lines way l) (cond (eqb (due way l) 0) finished (next (row_of way l) (next_of way l))) x h e

    pub none_next : n ≡ 0 → accepted finished ≡ next_row way l
    none_next z = judged_next true (eq-eqb (due way l) 0 (sym many ∙ z))

    pub row_next : (n ≡ 0 → ⊥) → (row : Row) (after : Loan) → (row ≡ row_of way l) × (after ≡ next_of way l) → accepted (next row after) ≡ next_row way l
    row_next z row after is = rw (is.0, is.1) (judged_next false (ne_eqb (due way l) 0 (λ w. z (many ∙ w))))

-- ---- an opening: the lines of the terms, and then the kind's
module _ (way : Way) (t : Terms) (pay : Float) (x : Result Unit Refusal) (e : outcome x ≡ verdict (terms_lines t)) where
  abbrev Started : Loan
  Started = loan_of (starting_terms way t) pay

  pub terms_refused : (r : Refusal) → x ≡ Err r → refused (number r.cause) r.place ≡ kind_opened_with way t pay
  unfolding kind_opened_with
  terms_refused r h = refused_first (terms_lines t) (kind_lines way t.term) Started x e r h

  module _ (h : x ≡ (Ok tt)) (y : Result Unit Refusal) (f : outcome y ≡ verdict (kind_lines way t.term)) where
    pub kind_refused : (r : Refusal) → y ≡ Err r → refused (number r.cause) r.place ≡ kind_opened_with way t pay
    unfolding kind_opened_with
    kind_refused r g = refused_by (kind_lines way t.term) Started y r g f ∙ accepted_first (terms_lines t) (kind_lines way t.term) Started x e h

    pub kind_opened_lem : y ≡ (Ok tt) → (s : Terms) (l : Loan) → s ≡ starting_terms way t → l ≡ loan_of s pay → accepted l ≡ kind_opened_with way t pay
    unfolding kind_opened_with
    kind_opened_lem g s l es el =
        rw (el, es) (accepted_by (kind_lines way t.term) Started y g f ∙ accepted_first (terms_lines t) (kind_lines way t.term) Started x e h)
