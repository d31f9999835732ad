-- A draw into lent room: what it answers, and what the room holds after it, for a loan in hand of any kind and every room. Definitions only. Assumes nothing.
use Rattle.std.specs.Prelude.{ℕ, ◌-◌, List, ◌∷◌, length, Float}
use Rattle.refusals.specs.Outcome.{Outcome, refused, accepted, Line, line, judged}
use Rattle.refusals.specs.Table.{bad_term, no_room, past_end}
use Rattle.mortgage.specs.declared.Loan.{Loan}
use Rattle.mortgage.specs.declared.draws.Portion.{Portion}
use Rattle.mortgage.specs.Kinds.{Way, kind_lines}
use Rattle.mortgage.specs.Row.{width}
use Rattle.mortgage.specs.Month.{end_month, due}
use Rattle.steps.specs.Steps.{fitting, laid}
use Rattle.mortgage.specs.Rows.{after, rows}

module _ (way : Way) where
  -- the lines of the table that a draw meets
  abbrev pub draw_lines : Loan → ℕ → List Line
  draw_lines l room = line 2 (bad_term l.term) ∷ line 3 (no_room (due way l) room width) ∷ line 10 (past_end (end_month way l) l.done) ∷ kind_lines way l.term

  -- "A draw writes as many rows as the room holds and the term still owes."
  abbrev pub count : Loan → ℕ → ℕ
  count l room = fitting (due way l) room width

  -- "Written plus owed is the term less the months done before."
  unfoldable pub portion : Loan → ℕ → Portion
  portion l room = record { written = count l room; owed = due way l - count l room; loan = after way (count l room) l }

  -- what a draw answers
  unfoldable pub drawn : Loan → List Float → Outcome Portion
  drawn l room = judged (draw_lines l (length room)) (portion l (length room))

  -- what the lent room holds after it: a refusal leaves it as it was
  abbrev pub filled_by : Outcome Portion → Loan → List Float → List Float
  filled_by (refused k p) l room = room
  filled_by (accepted d) l room = laid width d.written (rows way d.written l) room

  unfoldable pub filled : Loan → List Float → List Float
  filled l room = filled_by (drawn l room) l room
