-- The rows of a loan in hand, one after the other, and the next one alone: on a course of months, and of any kind. Definitions only. Assumes nothing.
use Rattle.std.specs.Prelude.{ℕ, cond, List, ◌∷◌, eqb, Float}
use Rattle.refusals.specs.Outcome.{Outcome, refused, accepted, Line, line, judged}
use Rattle.refusals.specs.Table.{bad_term, past_end}
use Rattle.records.specs.declared.Row.{Row}
use Rattle.mortgage.specs.declared.Loan.{Loan}
use Rattle.mortgage.specs.declared.kinds.Course.{Course}
use Rattle.mortgage.specs.declared.rows.Month.{Month}
use Rattle.mortgage.specs.Kinds.{Way, kind_lines}
use Rattle.mortgage.specs.Row.{places}
use Rattle.mortgage.specs.Month.{row_on, next_on, end_month, due, row_of, next_of}
use Rattle.steps.specs.Steps.{stepped, written}
use Rattle.refusals.specs.Answers.{number}
use Rattle.refusals.specs.declared.Refusal.{Refusal}
use Rattle.std.specs.declared.result.Result.{Result}
use Rattle.std.specs.declared.result.Result.TheVariants.{Ok, Err}
use Rattle.std.specs.declared.option.Option.{Option}
use Rattle.std.specs.declared.option.Option.TheVariants.{None, Some}

-- ---- on a course
module _ (c : Course) where
  abbrev pub after_on : ℕ → Loan → Loan
  after_on k l = stepped (next_on c) k l

  abbrev pub rows_on : ℕ → Loan → List Float
  rows_on k l = written (next_on c) (λ (m : Loan). places (row_on c m)) k l

-- ---- the next row alone: none for a finished loan
pub data NextRow : Type 0 where
  finished : NextRow
  next : Row → Loan → NextRow

module _ (way : Way) where
  -- the loan in hand after k rows, and the numbers of those rows
  abbrev pub after : ℕ → Loan → Loan
  after k l = stepped (next_of way) k l

  abbrev pub rows : ℕ → Loan → List Float
  rows k l = written (next_of way) (λ (m : Loan). places (row_of way m)) k l

  -- the lines of the table that the next row alone meets
  abbrev pub state_lines : Loan → List Line
  state_lines l = line 2 (bad_term l.term) ∷ line 10 (past_end (end_month way l) l.done) ∷ kind_lines way l.term

  unfoldable pub next_row : Loan → Outcome NextRow
  next_row l = judged (state_lines l) (cond (eqb (due way l) 0) finished (next (row_of way l) (next_of way l)))

abbrev pub next_outcome : Result (Option Month) Refusal → Outcome NextRow
next_outcome (Err r) = refused (number r.cause) r.place
next_outcome (Ok None) = accepted finished
next_outcome (Ok (Some m)) = accepted (next m.row m.next)
