-- The rows of an adjustable loan, laid year by year: between two years the room begins with the rows so far, the loan stands after them, and what a next year begins with is at hand.
-- Assumes nothing.
use mathlib.Core.Path.{◌≡◌, refl, sym, ap, ◌∙◌}
use mathlib.Core.Bool.{Bool, true, false, ◌&&◌}
use mathlib.Core.List.{List, ◌++◌}
use Prim.Native.Nat.{ℕ, ◌+◌, ◌-◌, ◌*◌, ◌%◌, ◌<◌, ◌≤◌, min}
use native.Mathlib.Omega.{arith}
use lib.Dec.{eqb, ltb}
use lib.ListN.{length, take, drop}
use lib.Ieee.{Float}
use borrow.Author.Tests.{ne_eqb}
use Rattle.std.specs.Prelude.{Option}
use Rattle.steps.proofs.Laying.{none_laid, joined_laid}
use Rattle.steps.proofs.Portions.{room_left}
use Rattle.mortgage.specs.declared.Loan.{Loan}
use Rattle.mortgage.specs.declared.kinds.Adjustment.{Adjustment}
use Rattle.mortgage.specs.declared.kinds.Course.{Course}
use Rattle.mortgage.specs.declared.rates.Coming.{Coming}
use Rattle.mortgage.specs.Row.{width}
use Rattle.mortgage.specs.Kinds.{Way, adjustable}
use Rattle.mortgage.specs.Rates.{begins_later_year, in_force}
use Rattle.mortgage.specs.Month.{next_of}
use Rattle.mortgage.specs.Rows.{after_on, rows_on, after, rows}
use Rattle.mortgage.specs.inner.Coming.{coming_behind, with_coming}
use Rattle.mortgage.specs.inner.Laying.{Layable, LaysOn, LaysOf}
use Rattle.mortgage.proofs.RowLaws.{term_on, rate_on_lem, in_force_term, in_force_done, term_after, done_on, done_after, Steady, stretch_after, stretch_rows}
use Rattle.mortgage.proofs.KindLaws.{coming_given}
use Rattle.mortgage.proofs.DrawCases.{row_places, wide}

-- ---- months that begin no later year
pub not_second : (x y : Bool) → y ≡ false → (x && y) ≡ false
not_second true y e = e
not_second false y e = refl

within_a_year : (done i : ℕ) → 0 < i → done % 12 + i < 12 → begins_later_year (done + i) ≡ false
within_a_year done i h b = not_second (ltb 0 (done + i)) (eqb ((done + i) % 12) 0) (ne_eqb ((done + i) % 12) 0 (λ e. absurd (omega arith)))

module _ (a : Adjustment) (index : List Float) where
  abbrev way : Way
  way = adjustable a index

  -- behind the first of its months a year gives nothing new
  given : (m : Loan) → begins_later_year m.done ≡ false → in_force way m ≡ m
  unfolding in_force
  given m e = rw e

  steady_year : (l : Loan) (n : ℕ) → l.done % 12 + n ≤ 12 → Steady way l n
  steady_year l n h i p b =
      given (after way i l) (ap begins_later_year (done_after way i l) ∙ within_a_year l.done i p (omega arith))

  -- ---- so many of the rows of a loan, into a room: k of them stand, and what the next begins with is at hand
  pub record Underway (count : ℕ) (l₀ : Loan) (room₀ : List Float) (k : ℕ) (l : Loan) (room : List Float) (coming : Option Coming) : Type 0 where
    pub laid : LaysOf way k l₀ room₀ l room
    pub within : k ≤ count
    pub at_hand : coming ≡ coming_behind a l.rate l.done l.term index

  pub none_yet : (count : ℕ) (l₀ : Loan) (room₀ : List Float) (coming : Option Coming) → coming ≡ coming_behind a l₀.rate l₀.done l₀.term index → Underway count l₀ room₀ 0 l₀ room₀ coming
  none_yet count l₀ room₀ coming e = record { laid = none_laid (next_of way) (row_places way) width 0 l₀ room₀ refl; within = omega arith; at_hand = e }

  module _ {count k : ℕ} {l₀ l : Loan} {room₀ room : List Float} {coming : Option Coming} (i : Underway count l₀ room₀ k l room coming) (f : Layable l₀.term l₀ count room₀) (h : k < count) where
    term_here : l.term ≡ l₀.term
    term_here = ap (λ (m : Loan). m.term) i.laid.state ∙ term_after way k l₀

    done_here : l.done ≡ l₀.done + k
    done_here = ap (λ (m : Loan). m.done) i.laid.state ∙ done_after way k l₀

    -- another month is due
    pub another : l.done < l.term
    another = omega (arith, term_here, done_here, f.due)

    module _ {begun : Loan} (eb : begun ≡ with_coming coming l) where
      in_force_lem : begun ≡ in_force way l
      in_force_lem = eb ∙ ap (λ (c : Option Coming). with_coming c l) i.at_hand ∙ coming_given a index l another

      pub begun_term : begun.term ≡ l₀.term
      begun_term = ap (λ (m : Loan). m.term) in_force_lem ∙ in_force_term way l ∙ term_here

      same_done : begun.done ≡ l.done
      same_done = ap (λ (m : Loan). m.done) in_force_lem ∙ in_force_done way l

      pub begun_done : begun.done ≡ l₀.done + k
      begun_done = same_done ∙ done_here

      -- the months up to the year's end, or as many as are left
      module _ {n : ℕ} (en : n ≡ min (12 - begun.done % 12) (count - k)) where
        pub of_a_year : (0 < n) × (begun.done % 12 + n ≤ 12) × (k + n ≤ count)
        of_a_year = (omega arith, omega arith, omega arith)

        rest : k + n - k ≡ n
        rest = omega arith

        fits_here : (k + n) * width ≤ length room₀
        fits_here = omega (arith, of_a_year.2, f.held)

        pub year_layable : length room ≡ length room₀ → Layable l₀.term begun n (take (length room - k * width) (drop (k * width) room))
        year_layable e = record {
          held = rw (← rest) (room_left (next_of way) (row_places way) width (wide way) room₀ room k (k + n) e (omega arith) fits_here);
          due = omega (arith, begun_done, of_a_year.2, f.due);
        }

        steady : Steady way l n
        steady = steady_year l n (omega (arith, of_a_year.1, same_done))

        abbrev course : Course
        course = record { only = 0; end = l₀.term }

        on_course : course ≡ record { only = 0; end = l.term }
        on_course = ap (λ (t : ℕ). record { only = 0; end = t }) (sym term_here)

        stretch_is : after_on course n begun ≡ after way n l
        stretch_is = rw (on_course, in_force_lem) (sym (stretch_after way l n steady of_a_year.0))

        stretch_rows_are : rows_on course n begun ≡ rows way n l
        stretch_rows_are = rw (on_course, in_force_lem) (sym (stretch_rows way l n steady))

        -- the year's rows are the loan's next, and what stands behind them is at hand
        pub a_year : {l' : Loan} {part : List Float} {coming' : Option Coming} → LaysOn course n begun (take (length room - k * width) (drop (k * width) room)) l' part
            → coming' ≡ coming_behind a begun.rate (begun.done + n) begun.term index
            → Underway count l₀ room₀ (k + n) l' (take (k * width) room ++ (part ++ drop (length room - k * width) (drop (k * width) room))) coming'
        a_year {l'} {part} {coming'} y e =
            let stood : LaysOf way (k + n - k) l (take (length room - k * width) (drop (k * width) room)) l' part = rw rest (record { state = y.state ∙ stretch_is; stand = rw (← stretch_rows_are) y.stand }) in record {
              laid = joined_laid (wide way) i.laid stood (omega arith) fits_here;
              within = of_a_year.2;
              at_hand = rw (y.state, rate_on_lem course n begun, done_on course n begun, term_on course n begun) e;
            }
