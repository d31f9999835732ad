-- A draw with year-end lines beside its rows, and the lookup of a year: what they answer, and what the lent lines hold after a draw, for a loan in hand of any kind, every room and all
-- lent lines, made-up ones too. Definitions only. Assumes nothing.
use Rattle.std.specs.Prelude.{ℕ, ◌-◌, ◌/◌, Bool, ◌||◌, List, [], ◌∷◌, length, Float}
use Rattle.refusals.specs.Outcome.{Outcome, refused, accepted, Line, line, judged}
use Rattle.refusals.specs.Table.{bad_term, no_room, too_few_lines, past_end, no_row_drawn}
use Rattle.mortgage.specs.declared.Loan.{Loan}
use Rattle.mortgage.specs.declared.draws.Portion.{Portion}
use Rattle.mortgage.specs.declared.years.Year.{Year}
use Rattle.mortgage.specs.Kinds.{Way, kind_lines, bad_end}
use Rattle.mortgage.specs.Row.{width}
use Rattle.mortgage.specs.Month.{end_month, due, row_of}
use Rattle.mortgage.specs.Rows.{after}
use Rattle.mortgage.specs.Draws.{portion, filled_by}
use Rattle.mortgage.specs.Years.{started_years, year_width, year_at, entered_up_to}

-- "3, fewer line places than started years in the term": lent lines are counted whole
abbrev pub fewer_than_started : Loan → ℕ → Bool
fewer_than_started l years = too_few_lines (started_years l.term) (years / year_width)

module _ (way : Way) where
  -- ---- the draw: it answers what the plain draw does, once there are lines enough; 3 has one place, whichever room is short
  abbrev pub year_draw_lines : Loan → ℕ → ℕ → List Line
  year_draw_lines l room years =
      line 2 (bad_term l.term) ∷ line 3 (no_room (due way l) room width || fewer_than_started l years) ∷ line 10 (past_end (end_month way l) l.done) ∷ kind_lines way l.term

  unfoldable pub drawn_with_years : Loan → List Float → List Float → Outcome Portion
  drawn_with_years l room years = judged (year_draw_lines l (length room) (length years)) (portion way l (length room))

  -- what the room holds after it
  unfoldable pub filled_with_years : Loan → List Float → List Float → List Float
  filled_with_years l room years = filled_by way (drawn_with_years l room years) l room

  -- and what the lines hold: the rows written, entered one by one; a refusal leaves them as they were
  abbrev pub years_after : ℕ → Loan → List Float → List Float
  years_after k l years = entered_up_to (λ (i : ℕ). row_of way (after way i l)) k years

  abbrev pub years_by : Outcome Portion → Loan → List Float → List Float
  years_by (refused k p) l years = years
  years_by (accepted d) l years = years_after d.written l years

  unfoldable pub summed : Loan → List Float → List Float → List Float
  summed l room years = years_by (drawn_with_years l room years) l years

  -- ---- the lookup by year, counted from 1: the line as it stands, where a row of that year is drawn; of a kind it reads the month that ends the loan alone
  abbrev pub lookup_lines : Loan → ℕ → ℕ → List Line
  lookup_lines l years year =
      line 2 (bad_term l.term) ∷ line 3 (fewer_than_started l years) ∷ line 10 (past_end (end_month way l) l.done) ∷ line 14 (no_row_drawn year (started_years l.done)) ∷ line 16 (bad_end way l.term) ∷ []

  unfoldable pub looked_up : Loan → List Float → ℕ → Outcome Year
  looked_up l years year = judged (lookup_lines l (length years) year) (year_at years (year - 1))
