-- A loan of any kind as a host works with it: opened from a record's bytes, then drawn and asked for its next row in any mix, each call handed the counts and the amounts that the call
-- before handed back. What a call answers is what its function promises: the result, and what the lent places hold after it. Definitions only. Assumes nothing.
use Rattle.std.specs.Prelude.{◌≡◌, cond, List, ℕ, ◌*◌, eqb, take, Float}
use Rattle.refusals.specs.Outcome.{and_then}
use Rattle.steps.specs.Calls as calls
use Rattle.records.specs.declared.Terms.{Terms}
use Rattle.records.specs.Kinds.{read_terms, row_in}
use Rattle.mortgage.specs.declared.Loan.{Loan}
use Rattle.mortgage.specs.Payment.{opened, opened_with}
use Rattle.mortgage.specs.Row.{width, places}
use Rattle.mortgage.specs.Kinds.{Way}
use Rattle.mortgage.specs.Openings.{kind_opened, kind_opened_with}
use Rattle.mortgage.specs.Month.{due}
use Rattle.mortgage.specs.Rows.{rows, next_row}
use Rattle.mortgage.specs.Draws.{drawn, filled}
use Rattle.mortgage.specs.Demand3.{rows_due, Repaid}
use Rattle.senyolanda.specs.Told.{told}
use Rattle.senyolanda.specs.Loans.{loan_in, loan_numbers, portion_numbers, kind_next_numbers}

-- ---- what a host keeps of a loan: its counts and its amounts
abbrev pub Kept : Type 0
Kept = List ℕ × List Float

abbrev pub in_hand : Kept → Loan
in_hand k = loan_in k.0 k.1

-- ---- what each function answers, by what stood in the places before it
abbrev pub open_answer : List ℕ → Kept → ℕ × Kept
open_answer bytes before = told loan_numbers (and_then (read_terms bytes) opened) before

abbrev pub open_with_answer : List ℕ → Float → Kept → ℕ × Kept
open_with_answer bytes payment before = told loan_numbers (and_then (read_terms bytes) (λ (t : Terms). opened_with t payment)) before

-- the openings of a kind
abbrev pub kind_open_answer : Way → List ℕ → Kept → ℕ × Kept
kind_open_answer way bytes before = told loan_numbers (and_then (read_terms bytes) (kind_opened way)) before

abbrev pub kind_open_with_answer : Way → List ℕ → Float → Kept → ℕ × Kept
kind_open_with_answer way bytes payment before = told loan_numbers (and_then (read_terms bytes) (λ (t : Terms). kind_opened_with way t payment)) before

-- ---- a call: the room or the record that is lent, and what stands where it will say how many rows it wrote and how many are owed
pub data Call : Type 0 where
  draw : List Float → ℕ → ℕ → Call
  next_row_call : List ℕ → ℕ → ℕ → Call

-- the rows that were written: as many as the call says, where its result is 0
abbrev pub rows_said : ℕ → ℕ → ℕ
rows_said result written = cond (eqb result 0) written 0

-- ---- the calls of one kind, with what it needs, the same throughout
module _ (way : Way) where
  -- the loan's counts and amounts, rows written, rows owed
  abbrev pub draw_answer : Kept → List Float → ℕ → ℕ → ℕ × (List ℕ × List Float × ℕ × ℕ)
  draw_answer k room written owed = told portion_numbers (drawn way (in_hand k) room) (k.0, k.1, written, owed)

  -- the loan's counts and amounts, the row's record, rows written, rows owed
  abbrev pub next_answer : Kept → List ℕ → ℕ → ℕ → ℕ × (List ℕ × List Float × List ℕ × ℕ × ℕ)
  next_answer k bytes written owed = told (kind_next_numbers way k.0 k.1 bytes) (next_row way (in_hand k)) (k.0, k.1, bytes, written, owed)

  -- the numbers that a host files of a call: the rows at the start of the room, or the row that the record holds
  unfoldable pub files : Kept → Call → List Float
  files k (draw room written owed) =
      take (rows_said (draw_answer k room written owed).0 (draw_answer k room written owed).1.2 * width) (filled way (in_hand k) room)
  files k (next_row_call bytes written owed) =
      take (rows_said (next_answer k bytes written owed).0 (next_answer k bytes written owed).1.3 * width) (places (row_in (next_answer k bytes written owed).1.2))

  -- and what it keeps: the loan that is handed back
  unfoldable pub kept_after : Kept → Call → Kept
  kept_after k (draw room written owed) = ((draw_answer k room written owed).1.0, (draw_answer k room written owed).1.1)
  kept_after k (next_row_call bytes written owed) = ((next_answer k bytes written owed).1.0, (next_answer k bytes written owed).1.1)

  -- ---- calls one after the other: what they file, and what the host keeps after them
  abbrev pub filed : Kept → List Call → List Float
  filed = calls.filed files kept_after

  abbrev pub kept : Kept → List Call → Kept
  kept = calls.left kept_after

  -- ---- demand 3 at the door: where an opening's result is 0, whatever calls go on to the loan's end file just its rows by the row rule, and these repay it
  abbrev pub RepaysOnceOpen : Terms → ℕ × Kept → Type 0
  RepaysOnceOpen t answer =
      answer.0 ≡ 0 → (calls : List Call) → due way (in_hand (kept answer.1 calls)) ≡ 0
      → (filed answer.1 calls ≡ rows way (rows_due way t) (in_hand answer.1)) × Repaid t.principal (rows_due way t) (filed answer.1 calls)
