-- `book::answers::put_answers` meets its contract: after i turns the first i answers stand. Assumes nothing.
use Prim.Native.Nat.{ℕ, ◌-◌, ◌≤◌}
use mathlib.Core.List.{List}
use Rattle.steps.proofs.Places.{Put}
use Rattle.book.specs.Book.{loan_at, answer}
use Rattle.book.proofs.answers.put_answers.Given as goal

-- what stands at the place i
abbrev pub answer_of : List ℕ → ℕ → ℕ
answer_of records i = answer (loan_at records i)

abbrev pub invariant-loop-i : goal.invariant-loop-i
invariant-loop-i l = (l.i ≤ l.count) × Put (answer_of l.records) l.initial.answers l.i l.answers

abbrev pub decreases-loop-i : goal.decreases-loop-i
decreases-loop-i l = l.count - l.i
