-- Document 01's loan by its own names, for the crates that speak of no other: what its rows leave as it was and move on, its draws case by case, and what an accepted one wrote. Each is a law
-- of any kind, at the level one; and its rate and payment stay. Assumes nothing.
use mathlib.Core.Path.{◌≡◌, refl, ap, ◌∙◌}
use mathlib.Core.Bool.{false}
use mathlib.Core.List.{List, [], ◌∷◌}
use Prim.Native.Nat.{ℕ, ◌+◌, ◌-◌, ◌*◌, ◌/◌, ◌<◌, ◌≤◌, min}
use native.Mathlib.Omega.{arith}
use lib.ListN.{length}
use lib.Ieee.{Float}
use borrow.Author.Tests.{lt-ltb, le-ltb}
use Rattle.refusals.specs.Outcome.{refused, accepted, line, judged}
use Rattle.refusals.specs.Table.{bad_term, no_room, past_end}
use Rattle.refusals.proofs.OneCause.{caused, clear}
use Rattle.mortgage.specs.declared.Loan.{Loan}
use Rattle.mortgage.specs.declared.draws.Portion.{Portion}
use Rattle.mortgage.specs.Row.{width}
use Rattle.mortgage.specs.Kinds.{level, course_of}
use Rattle.mortgage.specs.Month as of_kinds
use Rattle.mortgage.specs.Draws as draws
use Rattle.mortgage.specs.Demand3.{rows_in}
use Rattle.mortgage.specs.Payment.{monthly_rate}
use Rattle.mortgage.specs.RowRule.{left_of}
use Rattle.mortgage.specs.Rates.{in_force}
use Rattle.mortgage.specs.Level.{end_month, due, next_of, after, rows, count, portion, drawn}
use Rattle.steps.specs.Steps.{stepped}
use Rattle.mortgage.proofs.RowLaws as any_rows
use Rattle.mortgage.proofs.SteadyKinds.{level_after}
use Rattle.mortgage.proofs.DrawCases as any_cases
use Rattle.mortgage.proofs.DrawCases.{Fits, Drawable}
use Rattle.mortgage.proofs.DrawLaws as any_draws

-- line 16 has no cause in it
pub level_fits : (n : ℕ) → Fits level n
unfolding judged
level_fits n = refl

-- ---- its rows
abbrev pub row_places : Loan → List Float
row_places = any_cases.row_places level

pub wide : (l : Loan) → length (row_places l) ≡ width
wide = any_cases.wide level

pub length_rows : (k : ℕ) (l : Loan) → length (rows k l) ≡ k * width
length_rows = any_draws.length_rows level

pub term_after : (k : ℕ) (l : Loan) → (after k l).term ≡ l.term
term_after = any_rows.term_after level

pub end_after : (k : ℕ) (l : Loan) → end_month (after k l) ≡ end_month l
end_after = any_rows.end_after level

pub done_after : (k : ℕ) (l : Loan) → (after k l).done ≡ l.done + k
done_after = any_rows.done_after level

pub due_after : (k : ℕ) (l : Loan) → due (after k l) ≡ due l - k
due_after = any_rows.due_after level

pub rate_after : (k : ℕ) (l : Loan) → (after k l).rate ≡ l.rate
rate_after k l = ap (λ (m : Loan). m.rate) (level_after k l) ∙ any_rows.rate_on_lem (course_of level l.term) k l

pub payment_after : (k : ℕ) (l : Loan) → (after k l).payment ≡ l.payment
payment_after k l = ap (λ (m : Loan). m.payment) (level_after k l) ∙ any_rows.payment_on (course_of level l.term) k l

-- what a month leaves is the row rule's
pub balance_by_the_rule : (l : Loan) → (next_of l).balance ≡ left_of (of_kinds.last (of_kinds.course level l) l) l.payment (monthly_rate l.rate) l.balance
unfolding of_kinds.next_of of_kinds.next_on of_kinds.remaining of_kinds.principal of_kinds.interest_alone in_force left_of
balance_by_the_rule l = rw (le-ltb l.done 0 (omega arith))

-- ---- its draws
module _ (l : Loan) (room : List Float) (t : bad_term l.term ≡ false) where
  drawable : l.done ≤ end_month l → Drawable level l
  drawable h = record { good_term = t; within = h; kind_fits = level_fits l.term }

  nothing_due : due l ≡ 0 → (record { written = 0; owed = 0; loan = l }) ≡ portion l (length room)
  unfolding draws.portion stepped
  nothing_due z =
      let n : min 0 (length room / width) ≡ 0 = omega arith in
      rw (z, n)

  pub drawn_finished : end_month l ≡ l.done → accepted (record { written = 0; owed = 0; loan = l }) ≡ drawn l room
  unfolding no_room of_kinds.due
  drawn_finished h =
      let z : due l ≡ 0 = omega arith in
      ap accepted (nothing_due z) ∙ any_cases.drawable_draws level l room (drawable (omega arith)) (rw (le-ltb 0 (due l) (omega (arith, z))))

  pub drawn_short : l.done < end_month l → length room < width → refused 3 0 ≡ drawn l room
  unfolding draws.drawn no_room of_kinds.due
  drawn_short h s =
      caused (portion l (length room)) 3 (no_room (due l) (length room) width) (line 10 (past_end (end_month l) l.done) ∷ []) (rw (lt-ltb 0 (end_month l - l.done) (omega arith), lt-ltb _ _ s))
      ∙ clear (portion l (length room)) 2 (bad_term l.term) (line 3 (no_room (due l) (length room) width) ∷ line 10 (past_end (end_month l) l.done) ∷ []) t

  pub drawn_rows : l.done < end_month l → width ≤ length room → accepted (portion l (length room)) ≡ drawn l room
  unfolding no_room of_kinds.due
  drawn_rows h s = any_cases.drawable_draws level l room (drawable (omega arith)) (rw (lt-ltb 0 (end_month l - l.done) (omega arith), le-ltb (length room) width s))

  pub rows_drawn : rows_in (drawn l room) ≡ count l (length room)
  rows_drawn = any_draws.rows_drawn level l room t (level_fits l.term)

module _ (l : Loan) (room : List Float) (d : Portion) (e : drawn l room ≡ accepted d) where
  pub written_plus_owed : d.written + d.owed ≡ end_month l - l.done
  written_plus_owed = any_draws.written_plus_owed level l room d e

  pub hands_on : d.loan ≡ after d.written l
  hands_on = any_draws.hands_on level l room d e
