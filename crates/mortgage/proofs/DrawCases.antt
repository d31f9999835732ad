-- The lines that a draw, and the next row alone, meet, of a loan of any kind: where they have no cause, what is known of the loan and of its kind; and what a draw answers and leaves then. Assumes nothing.
use mathlib.Core.Path.{◌≡◌, refl, ap, ◌∙◌}
use mathlib.Core.Bool.{Bool, false, ◌||◌}
use mathlib.Core.List.{List, [], ◌∷◌, map}
use Prim.Native.Nat.{ℕ, ◌<◌, ◌≤◌}
use native.Mathlib.Omega.{arith}
use lib.Dec.{eqb, ltb}
use lib.ListN.{length}
use lib.Ieee.{Float}
use borrow.Author.Tests.{le-ltb, ltb-false}
use Rattle.refusals.specs.declared.Refusal.{Refusal}
use Rattle.refusals.specs.Outcome.{Outcome, refused, accepted, line}
use Rattle.refusals.specs.Table.{bad_term, no_room, past_end, bad_balloon, bad_initial, bad_cap, too_few_entries, bad_entry}
use Rattle.refusals.proofs.Causes.{neither, not_zero, alone_clear}
use Rattle.refusals.proofs.Judging.{none_is, passed}
use Rattle.refusals.proofs.OneCause.{clear}
use Rattle.refusals.proofs.Verdicts.{verdict, refused_by, accepted_by, accepted_alike}
use Rattle.steps.specs.Steps.{laid}
use Rattle.mortgage.specs.declared.Loan.{Loan}
use Rattle.mortgage.specs.declared.draws.Portion.{Portion}
use Rattle.mortgage.specs.Row.{width, places}
use Rattle.mortgage.specs.Kinds.{Way, level, interest_only, balloon, adjustable, later_years, entries_read, bad_adjustment, bad_end, kind_lines}
use Rattle.mortgage.specs.Month.{end_month, due, row_of}
use Rattle.mortgage.specs.Rows.{rows, state_lines}
use Rattle.mortgage.specs.Draws.{draw_lines, portion, drawn, filled_by, filled}
use Rattle.mortgage.specs.inner.Coming.{Listed}
use Rattle.std.specs.declared.result.Result.TheVariants.{Ok, Err}
use Rattle.std.specs.declared.result.Result.{Result}
use Rattle.refusals.specs.Answers.{number, outcome}

-- ---- the numbers of a loan's next row, as the piece of a room that the laws of portions speak of
abbrev pub row_places : Way → Loan → List Float
row_places way l = places (row_of way l)

pub wide : (way : Way) (l : Loan) → length (row_places way l) ≡ width
wide way l = refl

-- ---- a kind whose line 16 has no cause, for a term
abbrev pub Fits : Way → ℕ → Type 0
Fits way term = accepted tt ≡ verdict (kind_lines way term)

-- where a line's only cause is not there
one_none : (k : ℕ) (b : Bool) → accepted tt ≡ verdict (line k b ∷ []) → b ≡ false
one_none k b e = none_is (passed tt tt (line k b) [] e).0 0

pub fits_listed : (way : Way) (term : ℕ) → Fits way term → Listed way term
unfolding too_few_entries
fits_listed level term f = tt
fits_listed (interest_only months) term f = tt
fits_listed (balloon month) term f = tt
fits_listed (adjustable a index) term f =
    let single = (alone_clear (bad_initial a.initial || bad_cap a.cap || bad_cap a.lifetime || too_few_entries (later_years term) (length index)) (map bad_entry (entries_read index term)) (none_is (passed tt tt (bad_adjustment a index term) [] f).0)).0 in
    ltb-false (length index) (later_years term) (neither (bad_initial a.initial || bad_cap a.cap || bad_cap a.lifetime) (too_few_entries (later_years term) (length index)) single).1

pub fits_end : (way : Way) (term : ℕ) → Fits way term → bad_end way term ≡ false
fits_end level term f = refl
fits_end (interest_only months) term f = refl
fits_end (balloon month) term f = one_none 16 (bad_balloon month term) f
fits_end (adjustable a index) term f = refl

-- it ends within the term
pub ends_within : (way : Way) (l : Loan) → bad_end way l.term ≡ false → end_month way l ≤ l.term
unfolding end_month bad_balloon
ends_within level l b = omega arith
ends_within (interest_only months) l b = omega arith
ends_within (balloon month) l b = ltb-false l.term month (neither (eqb month 0) (ltb l.term month) b).1
ends_within (adjustable a index) l b = omega arith

pub fits_ends : (way : Way) (l : Loan) → Fits way l.term → end_month way l ≤ l.term
fits_ends way l f = ends_within way l (fits_end way l.term f)

-- and no sooner than with its first month
pub fits_some : (way : Way) (l : Loan) → bad_term l.term ≡ false → Fits way l.term → 0 < end_month way l
unfolding end_month bad_balloon bad_term
fits_some level l t f = not_zero l.term (ltb 1200 l.term) t
fits_some (interest_only months) l t f = not_zero l.term (ltb 1200 l.term) t
fits_some (balloon month) l t f = not_zero month (ltb l.term month) (one_none 16 (bad_balloon month l.term) f)
fits_some (adjustable a index) l t f = not_zero l.term (ltb 1200 l.term) t

-- ---- lines without a cause
pub record Drawable (way : Way) (l : Loan) : Type 0 where
  pub good_term : bad_term l.term ≡ false
  pub within : l.done ≤ end_month way l
  pub kind_fits : Fits way l.term

module _ (way : Way) (l : Loan) where
  pub state_clear : accepted tt ≡ verdict (state_lines way l) → Drawable way l
  unfolding past_end
  state_clear e =
      let first = passed tt tt (line 2 (bad_term l.term)) (line 10 (past_end (end_month way l) l.done) ∷ kind_lines way l.term) e in
      let second = passed tt tt (line 10 (past_end (end_month way l) l.done)) (kind_lines way l.term) first.1 in
      record { good_term = none_is first.0 0; within = ltb-false (end_month way l) l.done (none_is second.0 0); kind_fits = second.1 }

  pub draw_clear : (room : ℕ) → accepted tt ≡ verdict (draw_lines way l room) → Drawable way l
  draw_clear room e =
      let first = passed tt tt (line 2 (bad_term l.term)) (line 3 (no_room (due way l) room width) ∷ line 10 (past_end (end_month way l) l.done) ∷ kind_lines way l.term) e in
      let second = passed tt tt (line 3 (no_room (due way l) room width)) (line 10 (past_end (end_month way l) l.done) ∷ kind_lines way l.term) first.1 in
      state_clear (second.1 ∙ clear tt 2 (bad_term l.term) (line 10 (past_end (end_month way l) l.done) ∷ kind_lines way l.term) (none_is first.0 0))

  -- a draw that meets no cause is accepted
  pub drawable_draws : (room : List Float) → Drawable way l → no_room (due way l) (length room) width ≡ false → accepted (portion way l (length room)) ≡ drawn way l room
  unfolding drawn past_end
  drawable_draws room d n =
      let v : Portion = portion way l (length room) in
      accepted_alike (kind_lines way l.term) v d.kind_fits
      ∙ clear v 10 (past_end (end_month way l) l.done) (kind_lines way l.term) (le-ltb (end_month way l) l.done d.within)
      ∙ clear v 3 (no_room (due way l) (length room) width) (line 10 (past_end (end_month way l) l.done) ∷ kind_lines way l.term) n
      ∙ clear v 2 (bad_term l.term) (line 3 (no_room (due way l) (length room) width) ∷ line 10 (past_end (end_month way l) l.done) ∷ kind_lines way l.term) d.good_term

  -- ---- as a `match` on the verdict has it, in either arm
  module _ (room : List Float) (x : Result Unit Refusal) (e : outcome x ≡ verdict (draw_lines way l (length room))) where
    pub refused_draw : (r : Refusal) → x ≡ Err r → (refused (number r.cause) r.place ≡ drawn way l room) × (room ≡ filled way l room)
    unfolding drawn filled
    refused_draw r h =
        let is = refused_by (draw_lines way l (length room)) (portion way l (length room)) x r h e in
        (is, ap (λ (o : Outcome Portion). filled_by way o l room) is)

    pub accepted_draw : x ≡ (Ok tt) → (d : Portion) (room' : List Float) → d ≡ portion way l (length room) → room' ≡ laid width d.written (rows way d.written l) room
        → (accepted d ≡ drawn way l room) × (room' ≡ filled way l room)
    unfolding drawn filled
    accepted_draw h d room' ed er =
        let is = ap accepted ed ∙ accepted_by (draw_lines way l (length room)) (portion way l (length room)) x h e in
        (is, er ∙ ap (λ (o : Outcome Portion). filled_by way o l room) is)
