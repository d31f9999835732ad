-- What the functions that lay rows from the start of a room ask and promise. Definitions only. Assumes nothing.
use Rattle.std.specs.Prelude.{◌≡◌, ℕ, ◌+◌, ◌*◌, ◌≤◌, List, length, Float}
use Rattle.mortgage.specs.declared.Loan.{Loan}
use Rattle.mortgage.specs.declared.kinds.Course.{Course}
use Rattle.mortgage.specs.Kinds.{Way, level}
use Rattle.mortgage.specs.Row.{width, places}
use Rattle.mortgage.specs.Month.{row_on, next_on, row_of, next_of}
use Rattle.mortgage.specs.Draws.{draw_lines}
use Rattle.steps.specs.Steps.{Lays, LaysBoth}
use Rattle.refusals.specs.Outcome.{accepted, judged}

-- no line that a draw meets has a cause
abbrev pub MayDraw : Way → Loan → ℕ → Type 0
MayDraw way l places = accepted tt ≡ judged {Value = Unit} (draw_lines way l places) tt

-- so many rows of a loan are due before its end, and a room holds them
pub record Layable (end : ℕ) (l : Loan) (n : ℕ) (room : List Float) : Type 0 where
  pub held : n * width ≤ length room
  pub due : l.done + n ≤ end

-- they are laid, on a course and of any kind: the loan after them, and what the room holds then
abbrev pub LaysOn : Course → ℕ → Loan → List Float → Loan → List Float → Type 0
LaysOn c = Lays (next_on c) (λ (l : Loan). places (row_on c l)) width

abbrev pub LaysOf : Way → ℕ → Loan → List Float → Loan → List Float → Type 0
LaysOf way = Lays (next_of way) (λ (l : Loan). places (row_of way l)) width

-- so many of each of two level loans, from two places of a room
abbrev pub LaysPair : ℕ → ℕ → ℕ → Loan → Loan → List Float → Loan → Loan → List Float → Type 0
LaysPair = LaysBoth (next_of level) (λ (l : Loan). places (row_of level l))
