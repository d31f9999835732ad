-- A book of loans in one call: kind 1 records end to end, each loan drawn whole, one behind the other, into one lent room.
-- What the call answers, and what the two lent lists hold after it, on every input. Definitions only. Assumes nothing.
use Rattle.std.specs.Prelude.{ℕ, zero, suc, ◌+◌, ◌*◌, ◌-◌, ◌/◌, min, Bool, cond, not, ◌&&◌, ◌||◌, List, [], ◌∷◌, ◌++◌, ltb, length, drop, Float}
use Rattle.refusals.specs.Outcome.{Outcome, refused, accepted, and_then, Line, line, judged}
use Rattle.refusals.specs.Table.{no_room, no_room_for_all, bad_total}
use Rattle.steps.specs.Steps.{pieces, singles}
use Rattle.records.specs.Kinds.{terms_size, read_terms}
use Rattle.records.specs.EndToEnd.{record_count, record_at}
use Rattle.mortgage.specs.declared.Loan.{Loan}
use Rattle.mortgage.specs.Payment.{opened}
use Rattle.mortgage.specs.Row.{width}
use Rattle.mortgage.specs.Level.{due, rows}
use Rattle.std.specs.declared.result.Result.TheVariants.{Ok, Err}
use Rattle.std.specs.declared.result.Result.{Result}
use Rattle.refusals.specs.declared.Refusal.{Refusal}
use Rattle.book.specs.declared.BookProgress.{BookProgress}
use Rattle.refusals.specs.Answers.{number}

-- ---- the loans

-- the most records of a call
abbrev pub most_loans : ℕ
most_loans = 256

-- how many loans the bytes hold, and the loan i of them, from 0, as it is opened by itself
abbrev pub loan_count : List ℕ → ℕ
loan_count bytes = record_count terms_size bytes

unfoldable pub loan_at : List ℕ → ℕ → Outcome Loan
loan_at bytes i = and_then (read_terms (record_at terms_size bytes i)) opened

-- "Each loan's answer is 0 or its refusal number."
abbrev pub answer : Outcome Loan → ℕ
answer (refused k p) = k
answer (accepted l) = 0

-- the rows that a loan asks for: a refused one none
abbrev pub asked : Outcome Loan → ℕ
asked (refused k p) = 0
asked (accepted l) = due l

-- the first k rows of a loan, and all that it asks for: a refused one has none
abbrev pub first_rows : ℕ → Outcome Loan → List Float
first_rows k (refused n p) = []
first_rows k (accepted l) = rows k l

abbrev pub all_rows : Outcome Loan → List Float
all_rows o = first_rows (asked o) o

-- ---- how far the work goes: "Work stops where an accepted loan's row finds no room."

-- the rows that the first k loans ask for
unfoldable pub asked_by : List ℕ → ℕ → ℕ
asked_by bytes zero = 0
asked_by bytes (suc k) = asked_by bytes k + asked (loan_at bytes k)

-- of k loans from the loan i on, those before the first that asks for more rows than are left
unfoldable pub finishing : List ℕ → ℕ → ℕ → ℕ → ℕ
finishing bytes left i zero = 0
finishing bytes left i (suc k) =
    cond (ltb left (asked (loan_at bytes i))) 0 (suc (finishing bytes (left - asked (loan_at bytes i)) (suc i) k))

-- the rows that a room of so many places holds
abbrev pub held : ℕ → ℕ
held room = room / width

-- "loans finished (refused ones count here)"
unfoldable pub finished : List ℕ → ℕ → ℕ
finished bytes room = finishing bytes (held room) 0 (loan_count bytes)

-- "months written of the one cut short (at least 1; its answer is 0), else 0"
unfoldable pub cut_short : List ℕ → ℕ → ℕ
cut_short bytes room = cond (ltb (finished bytes room) (loan_count bytes)) (held room - asked_by bytes (finished bytes room)) 0

-- the loans with an answer: those finished, and the one cut short
unfoldable pub answered : List ℕ → ℕ → ℕ
answered bytes room = finished bytes room + min (cut_short bytes room) 1

-- "loans not started (no row placed), whose answers stay"
pub record Progress : Type 0 where
  pub finished : ℕ
  pub cut : ℕ
  pub waiting : ℕ

unfoldable pub progress : List ℕ → ℕ → Progress
progress bytes room = record {
  finished = finished bytes room;
  cut = cut_short bytes room;
  waiting = loan_count bytes - answered bytes room;
}

-- ---- what is written

-- the rows of the first k loans, whole, one loan behind the other
abbrev pub rows_up_to : List ℕ → ℕ → List Float
rows_up_to bytes k = pieces (λ (i : ℕ). all_rows (loan_at bytes i)) k

-- the answers of the first k loans
abbrev pub answers_up_to : List ℕ → ℕ → List ℕ
answers_up_to bytes k = singles (λ (i : ℕ). answer (loan_at bytes i)) k

-- the room, with the loans that are finished and the one cut short: other places stay
unfoldable pub room_after : List ℕ → List Float → List Float
room_after bytes room =
    (rows_up_to bytes (finished bytes (length room)) ++ first_rows (cut_short bytes (length room)) (loan_at bytes (finished bytes (length room))))
    ++ drop ((asked_by bytes (finished bytes (length room)) + cut_short bytes (length room)) * width) room

unfoldable pub answers_after : List ℕ → ℕ → List ℕ → List ℕ
answers_after bytes room answers = answers_up_to bytes (answered bytes room) ++ drop (answered bytes room) answers

-- ---- refusals

-- 11, and nothing else: "a total length that is not a multiple of 21 or is above 256 records"
abbrev pub bad_book : List ℕ → Bool
bad_book bytes = bad_total terms_size most_loans (length bytes)

-- 3: "too few answer places or if the first accepted loan cannot place one row": rows are asked for, and none fits
unfoldable pub too_little : List ℕ → ℕ → ℕ → Bool
too_little bytes answers room = no_room_for_all (loan_count bytes) answers 1 || no_room (asked_by bytes (loan_count bytes)) room width

abbrev pub book_lines : List ℕ → ℕ → ℕ → List Line
book_lines bytes answers room = line 3 (not (bad_book bytes) && too_little bytes answers room) ∷ line 11 (bad_book bytes) ∷ []

-- what the call answers
unfoldable pub book_drawn : List ℕ → ℕ → ℕ → Outcome Progress
book_drawn bytes answers room = judged (book_lines bytes answers room) (progress bytes room)

-- what the lent lists hold after it: a refusal leaves them as they were
abbrev pub unless_refused : {A : Type 0} → Outcome Progress → A → A → A
unless_refused (refused k p) before after = before
unless_refused (accepted d) before after = after

unfoldable pub book_room : List ℕ → List ℕ → List Float → List Float
book_room bytes answers room = unless_refused (book_drawn bytes (length answers) (length room)) room (room_after bytes room)

unfoldable pub book_answers : List ℕ → List ℕ → List Float → List ℕ
book_answers bytes answers room =
    unless_refused (book_drawn bytes (length answers) (length room)) answers (answers_after bytes (length room) answers)

-- what the code's answer says
abbrev pub book_outcome : Result BookProgress Refusal → Outcome Progress
book_outcome (Err r) = refused (number r.cause) r.place
book_outcome (Ok d) = accepted (record { finished = d.finished; cut = d.cut; waiting = d.waiting })
