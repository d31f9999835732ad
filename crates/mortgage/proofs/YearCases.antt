-- The cases of the lookup of a year and of a draw with year-end lines, in the order in which the code tests: what is answered, and what the room and the lines hold then. Assumes nothing.
use mathlib.Core.Path.{◌≡◌, sym, ap, ◌∙◌}
use mathlib.Core.Path.{refl}
use mathlib.Core.Bool.{Bool, true, false, cond}
use mathlib.Core.List.{List}
use Prim.Native.Nat.{ℕ, ◌+◌, ◌-◌, ◌*◌, ◌/◌, ◌<◌, ◌≤◌}
use native.Mathlib.Omega.{arith}
use lib.ListN.{length}
use lib.Ieee.{Float}
use borrow.Author.Tests.{lt-ltb, le-ltb, ltb-false, eq-eqb, ne_eqb}
use Rattle.refusals.specs.Outcome.{Outcome, refused, accepted, first_or, judged}
use Rattle.refusals.specs.Table.{bad_term, no_room, too_few_lines, past_end, no_row_drawn}
use Rattle.refusals.proofs.Causes.{or_true, or_false, term_within}
use Rattle.refusals.proofs.Verdicts.{accepts_whatever}
use Rattle.steps.specs.Steps.{laid}
use Rattle.mortgage.specs.declared.Loan.{Loan}
use Rattle.mortgage.specs.declared.draws.Portion.{Portion}
use Rattle.mortgage.specs.Row.{width}
use Rattle.mortgage.specs.Kinds.{Way, bad_end}
use Rattle.mortgage.specs.Month.{end_month, due}
use Rattle.mortgage.specs.Rows.{rows}
use Rattle.mortgage.specs.Draws.{draw_lines, portion, drawn, filled}
use Rattle.mortgage.specs.Years.{started_years, year_width, year_at, entered_up_to}
use Rattle.mortgage.specs.YearDraws.{fewer_than_started, drawn_with_years, years_by, summed, looked_up}
use Rattle.mortgage.specs.inner.RoomRows.{rows_from}
use Rattle.mortgage.proofs.DrawCases.{Drawable, draw_clear, fits_ends}
use Rattle.mortgage.proofs.DrawLaws.{written_is, filled_is, written_within}
use Rattle.mortgage.proofs.EnteringRows.{entered_from_room}

-- lines enough are a whole line for each started year, and so for each year that rows have begun
pub enough_lines : (l : Loan) (years : ℕ) → fewer_than_started l years ≡ false → started_years l.term * year_width ≤ years
unfolding too_few_lines
enough_lines l years f = omega (arith, ltb-false (years / year_width) (started_years l.term) f)

pub enough_for_begun : (l : Loan) (years n : ℕ) → fewer_than_started l years ≡ false → n ≤ l.term → started_years n * year_width ≤ years
enough_for_begun l years n f h = omega (arith, enough_lines l years f)

module _ (way : Way) where
  -- ---- the lookup of a year, where term, lines and months done have no cause
  module _ (l : Loan) (years : List Float) (year : ℕ) (t : bad_term l.term ≡ false) (f : fewer_than_started l (length years) ≡ false) (h : l.done ≤ end_month way l) where
    pub lookup_year_0 : year ≡ 0 → refused 14 0 ≡ looked_up way l years year
    unfolding looked_up judged first_or past_end no_row_drawn
    lookup_year_0 z = rw (t, f, le-ltb (end_month way l) l.done h, eq-eqb year 0 z)

    pub lookup_no_row : (year ≡ 0 → ⊥) → started_years l.done < year → refused 14 0 ≡ looked_up way l years year
    unfolding looked_up judged first_or past_end no_row_drawn
    lookup_no_row z n = rw (t, f, le-ltb (end_month way l) l.done h, ne_eqb year 0 z, lt-ltb _ _ n)

    pub lookup_found : (year ≡ 0 → ⊥) → year ≤ started_years l.done → bad_end way l.term ≡ false → accepted (year_at years (year - 1)) ≡ looked_up way l years year
    unfolding looked_up judged first_or past_end no_row_drawn
    lookup_found z n b = rw (t, f, le-ltb (end_month way l) l.done h, ne_eqb year 0 z, le-ltb (started_years l.done) year n, b)

  -- ---- the draw
  module _ (l : Loan) (room years : List Float) where
    -- the term and the lines decide first, and then it answers what the plain draw does
    pub drawn_in_order : drawn_with_years way l room years ≡ cond (bad_term l.term) (refused 2 0) (cond (fewer_than_started l (length years)) (refused 3 0) (drawn way l room))
    unfolding drawn drawn_with_years judged first_or
    drawn_in_order = go (bad_term l.term) (fewer_than_started l (length years)) refl refl
      where
        go : (s t : Bool) → s ≡ bad_term l.term → t ≡ fewer_than_started l (length years) → drawn_with_years way l room years ≡ cond s (refused 2 0) (cond t (refused 3 0) (drawn way l room))
        go true t es et = rw (← es)
        go false true es et = rw (← es, ← et, or_true (no_room (due way l) (length room) width))
        go false false es et = rw (← es, ← et, or_false (no_room (due way l) (length room) width))

    module _ (t : bad_term l.term ≡ false) (f : fewer_than_started l (length years) ≡ false) where
      module _ (d : Portion) (room' : List Float) (e : accepted d ≡ drawn way l room) (er : room' ≡ filled way l room) where
        -- drawn: the months done and the rows written are within the loan, and so are the lines
        drawable : Drawable way l
        unfolding drawn
        drawable = draw_clear way l (length room) (accepts_whatever (draw_lines way l (length room)) (portion way l (length room)) d e)

        months_within : l.done + d.written ≤ l.term
        unfolding due
        months_within = omega (arith, drawable.within, fits_ends way l drawable.kind_fits, written_within way l room d (sym e))

        pub enters_within : length room' ≡ length room
            → (d.written * width ≤ length room') × (l.done + d.written ≤ 1200) × (started_years (l.done + d.written) * year_width ≤ length years)
        enters_within n =
            (omega (arith, written_is way l room d (sym e)), omega (arith, months_within, term_within l.term t), enough_for_begun l (length years) (l.done + d.written) f months_within)

        -- and the rows written are entered
        pub entered_as_summed : {years' : List Float} → years' ≡ entered_up_to (rows_from room' 0 l.done) d.written years → years' ≡ summed way l room years
        unfolding summed
        entered_as_summed ey =
            let stands : room' ≡ laid width d.written (rows way d.written l) room = er ∙ filled_is way l room d (sym e) in
            let same : accepted d ≡ drawn_with_years way l room years = e ∙ sym (drawn_in_order ∙ rw (t, f)) in
            ey
            ∙ ap (λ (o : List Float). entered_up_to (rows_from o 0 l.done) d.written years) stands
            ∙ entered_from_room way l d.written room years
            ∙ ap (λ (o : Outcome Portion). years_by way o l years) same
