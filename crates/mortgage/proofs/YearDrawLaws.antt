-- One draw with year-end lines, of a loan in hand of any kind into any room with any lines: its rows and its loan are those of the plain draw, a refusal changes nothing, lines of years without a row and
-- places behind the lines stay, and a year that the rows end within has fewer months. Assumes nothing.
use mathlib.Core.Path.{◌≡◌, refl, sym, ap, ◌∙◌}
use mathlib.Core.Logic.{◌⊎◌, inl, inr}
use mathlib.Core.Bool.{Bool, true, false, cond}
use mathlib.Core.List.{List}
use Prim.Native.Nat.{ℕ, ◌+◌, ◌-◌, ◌*◌, ◌%◌, ◌<◌, ◌≤◌}
use native.Mathlib.Omega.{arith}
use lib.ListN.{length, get_or}
use lib.Ieee.{Float, nan}
use Rattle.refusals.specs.Outcome.{Outcome, refused, accepted}
use Rattle.refusals.specs.Table.{bad_term}
use Rattle.mortgage.specs.declared.Loan.{Loan}
use Rattle.mortgage.specs.declared.draws.Portion.{Portion}
use Rattle.mortgage.specs.Kinds.{Way}
use Rattle.mortgage.specs.Month.{row_on, row_of}
use Rattle.mortgage.specs.Rows.{after}
use Rattle.mortgage.specs.Draws.{drawn, filled_by, filled}
use Rattle.mortgage.specs.Years.{started_years, months_in, year_width, line_behind}
use Rattle.mortgage.specs.YearDraws.{fewer_than_started, drawn_with_years, filled_with_years, years_after, years_by, summed}
use Rattle.mortgage.proofs.RowLaws.{in_force_done, done_after}
use Rattle.mortgage.proofs.YearLaws.{length_entered, places_before_stay, places_behind_stay}
use Rattle.mortgage.proofs.YearCases.{drawn_in_order}

-- ---- the months of a year among the first n
pub whole_years : (n year : ℕ) → 0 < year → year < started_years n → months_in year n ≡ 12
whole_years n year h b = omega arith

-- "A year cut short by the term is a line with fewer months."
pub cut_short_lem : (n : ℕ) → 0 < n → months_in (started_years n) n ≡ (n - 1) % 12 + 1
cut_short_lem n h = omega arith

module _ (way : Way) where
  -- ---- the months of a loan's rows
  pub month_of_row : (l : Loan) (i : ℕ) → (row_of way (after way i l)).month ≡ l.done + i + 1
  unfolding row_of row_on
  month_of_row l i = omega (arith, in_force_done way (after way i l), done_after way i l)

  module _ (l : Loan) (room years : List Float) where
    -- ---- a draw that is accepted is the plain draw
    pub as_the_plain_draw : (d : Portion) → drawn_with_years way l room years ≡ accepted d → drawn way l room ≡ accepted d
    as_the_plain_draw d e = go (bad_term l.term) (fewer_than_started l (length years)) (sym (drawn_in_order way l room years) ∙ e)
      where
        go : (bad few : Bool) → cond bad (refused 2 0) (cond few (refused 3 0) (drawn way l room)) ≡ accepted d → drawn way l room ≡ accepted d
        go true few r = cc
        go false true r = cc
        go false false r = r

    -- and leaves the room that the plain draw leaves
    pub as_the_plain_room : (d : Portion) → drawn_with_years way l room years ≡ accepted d → filled_with_years way l room years ≡ filled way l room
    unfolding filled_with_years filled
    as_the_plain_room d e = ap (λ (o : Outcome Portion). filled_by way o l room) (e ∙ sym (as_the_plain_draw d e))

    -- with lines enough there is no difference at all
    pub as_the_plain_answer : bad_term l.term ≡ false → fewer_than_started l (length years) ≡ false → drawn_with_years way l room years ≡ drawn way l room
    as_the_plain_answer t f = drawn_in_order way l room years ∙ rw (t, f)

    -- ---- a refusal leaves the room and the lines
    pub refused_leaves_all : (k p : ℕ) → drawn_with_years way l room years ≡ refused k p → (filled_with_years way l room years ≡ room) × (summed way l room years ≡ years)
    unfolding filled_with_years summed
    refused_leaves_all k p e = (ap (λ (o : Outcome Portion). filled_by way o l room) e, ap (λ (o : Outcome Portion). years_by way o l years) e)

    -- ---- the lines after an accepted draw
    pub summed_is : (d : Portion) → drawn_with_years way l room years ≡ accepted d → summed way l room years ≡ years_after way d.written l years
    unfolding summed
    summed_is d e = ap (λ (o : Outcome Portion). years_by way o l years) e

    pub as_many_places : length (summed way l room years) ≡ length years
    unfolding summed
    as_many_places = go (drawn_with_years way l room years)
      where
        go : (o : Outcome Portion) → length (years_by way o l years) ≡ length years
        go (refused k p) = refl
        go (accepted d) = length_entered (λ (i : ℕ). row_of way (after way i l)) d.written years

    -- lines of years before those of its rows, lines of years behind them, and places behind the last line
    pub other_places_stay : (d : Portion) → drawn_with_years way l room years ≡ accepted d → (j : ℕ)
        → (j < line_behind l.done * year_width) ⊎ (started_years (l.done + d.written) * year_width ≤ j) → get_or (summed way l room years) j nan ≡ get_or years j nan
    other_places_stay d e j = go
      where
        go : (j < line_behind l.done * year_width) ⊎ (started_years (l.done + d.written) * year_width ≤ j) → get_or (summed way l room years) j nan ≡ get_or years j nan
        go (inl h) = ap (λ (o : List Float). get_or o j nan) (summed_is d e) ∙ places_before_stay (λ (i : ℕ). row_of way (after way i l)) l.done (month_of_row l) years d.written j h
        go (inr h) = ap (λ (o : List Float). get_or o j nan) (summed_is d e) ∙ places_behind_stay (λ (i : ℕ). row_of way (after way i l)) l.done (month_of_row l) years d.written j h
