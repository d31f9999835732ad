-- A portion of a loan that no draw with room refuses: the draw is accepted, the lines of its room are the loan's next lines, and portions follow one another. Assumes nothing.
use mathlib.Core.Path.{◌≡◌, refl, sym, ap, ◌∙◌}
use mathlib.Core.Logic.{inl, inr}
use mathlib.Core.Bool.{false}
use mathlib.Core.List.{List, ◌++◌}
use Prim.Native.Nat.{ℕ, ◌+◌, ◌*◌, ◌/◌, ◌^◌, ◌<◌, ◌≤◌, min}
use native.Mathlib.Nat.{eq-or-lt_of_le}
use native.Mathlib.Omega.{arith}
use lib.ListN.{length}
use lib.Ieee.{Float}
use Rattle.refusals.specs.Outcome.{refused, accepted}
use Rattle.refusals.specs.Table.{bad_term}
use Rattle.refusals.proofs.Causes.{term_within}
use Rattle.mortgage.specs.declared.Loan.{Loan}
use Rattle.mortgage.specs.declared.draws.Portion.{Portion}
use Rattle.mortgage.specs.Row.{width}
use Rattle.mortgage.specs.Month as any_month
use Rattle.mortgage.specs.Draws as any_draws
use Rattle.mortgage.specs.Level.{end_month, due, row_of, next_of, after, drawn, filled}
use Rattle.steps.specs.Steps.{pieces, stepped}
use Rattle.mortgage.specs.Demand3.{rows_in}
use Rattle.steps.proofs.Portions.{stepped_sum, written_sum}
use Rattle.mortgage.proofs.LevelLaws.{term_after, end_after, done_after, due_after}
use Rattle.mortgage.proofs.LevelLaws.{drawn_finished, drawn_rows}
use Rattle.mortgage.proofs.LevelLaws.{rows_drawn, written_plus_owed, hands_on}
use Rattle.listing.specs.declared.portions.Listed.{Listed}
use Rattle.listing.specs.Listing.{row_line, row_lines}
use Rattle.listing.specs.inner.Putting.{Put}
use Rattle.listing.specs.inner.Portions.{room_lines, line_room, portion_rows, Listable, Lists}
use Rattle.listing.proofs.Putting.{then, same_text, nothing, same_room}
use Rattle.listing.proofs.Lengths.{length_lines}
use Rattle.listing.proofs.RoomLaws.{laid_lines}

-- ---- a draw into a room that holds a row
module _ (l : Loan) (room : List Float) (good : bad_term l.term ≡ false) (h : l.done ≤ end_month l) (holds : width ≤ length room) where
  pub never_refused : (k p : ℕ) → drawn l room ≡ refused k p → ⊥
  never_refused k p e = elim (eq-or-lt_of_le h) [
    | inl q ↦ let f = drawn_finished l room good (sym q) in let z : ◌≡◌ {A = ℕ} 0 1 = cc in omega arith
    | inr q ↦ let f = drawn_rows l room good q holds in let z : ◌≡◌ {A = ℕ} 0 1 = cc in omega arith
  ]

module _ (l : Loan) (room : List Float) (good : bad_term l.term ≡ false) (d : Portion) (e : drawn l room ≡ accepted d) where
  pub as_many : d.written ≡ min (due l) (length room / width)
  as_many = sym (ap rows_in e) ∙ rows_drawn l room good

  pub still_owed : d.owed ≡ due d.loan
  unfolding any_month.due
  still_owed = omega (arith, written_plus_owed l room d e, ap due (hands_on l room d e) ∙ due_after d.written l)

  pub its_lines : room_lines l.done (filled l room) d.written ≡ row_lines d.written l
  unfolding any_draws.filled
  its_lines = rw e (laid_lines l d.written room)

-- ---- a loan that is listed is as short as its term
pub short : (l : Loan) → bad_term l.term ≡ false → end_month l ≤ 1200
unfolding any_month.end_month
short l = term_within l.term

-- ---- the portion that is drawn into its room and put as lines
module _ (s : Listed) (space : ℕ) (ok : Listable s space) (room : List Float) (size : length room ≡ portion_rows * width) (d : Portion) (e : drawn s.loan room ≡ accepted d) where
  many : d.written ≡ min (due s.loan) portion_rows
  many = as_many s.loan room ok.drawable.term d e ∙ rw size

  pub portion_fits : (room' : List Float) → length room' ≡ length room
      → (d.written * width ≤ length room') × (s.loan.done + d.written < 2 ^ 32) × (s.at + d.written * line_room ≤ space)
  unfolding any_month.due
  portion_fits room' n =
      let b : end_month s.loan ≤ 1200 = short s.loan ok.drawable.term in
      (omega (arith, many), omega (arith, many, ok.drawable.done), omega (arith, many, ok.lines))

  pub portion_counts : s.rows + d.written < 2 ^ 32
  portion_counts = omega (arith, many, ok.count)

  pub portion_listed : (room' : List Float) (at : ℕ) (o p : List ℕ) → room' ≡ filled s.loan room
      → Put (room_lines s.loan.done room' d.written) s.at o at p
      → Lists (min (due s.loan) portion_rows) s o (record { at = at; rows = s.rows + d.written; left = d.owed; loan = d.loan }) p × (d.owed ≡ due d.loan)
  portion_listed room' at o p f t = (
    rw (← many) record {
      rows = refl;
      loan = hands_on s.loan room d e;
      text = same_text (rw f (its_lines s.loan room ok.drawable.term d e)) t;
    },
    still_owed s.loan room ok.drawable.term d e,
  )

-- ---- portions that follow one another
after_sum : (a b : ℕ) (l : Loan) → after (b + a) l ≡ after b (after a l)
after_sum a b l = stepped_sum next_of a b l

lines_sum : (a b : ℕ) (l : Loan) → row_lines (b + a) l ≡ row_lines a l ++ row_lines b (after a l)
lines_sum = written_sum next_of (λ (m : Loan). row_line (row_of m))

pub follows : {j k : ℕ} {s t u : Listed} {o p q : List ℕ} → Lists j s o t p → Lists k t p u q → Lists (k + j) s o u q
follows {j} {k} {s} {t} {u} {o} {p} {q} a b = record {
  rows = omega (arith, a.rows, b.rows);
  loan = b.loan ∙ ap (after k) a.loan ∙ sym (after_sum j k s.loan);
  text = same_text (rw a.loan (sym (lines_sum j k s.loan))) (then a.text b.text);
}

-- what is left can be listed too
pub still_listable : {k : ℕ} {s t : Listed} {o p : List ℕ} → Listable s (length o) → Lists k s o t p → k ≤ due s.loan → Listable t (length p)
unfolding any_month.due
still_listable {k} {s} {t} {o} {p} ok a h =
    let l = ap due a.loan ∙ due_after k s.loan in
    record {
      drawable = record {
        term = rw (a.loan, term_after k s.loan) ok.drawable.term;
        done = rw a.loan (omega (arith, ok.drawable.done, end_after k s.loan, done_after k s.loan));
      };
      count = omega (arith, ok.count, a.rows, l);
      lines = omega (arith, ok.lines, a.text.place, same_room a.text, l, length_lines k s.loan);
    }

-- ---- the loop over portions: so many rows are listed, of those that were due
pub record Underway (s : Listed) (o : List ℕ) (t : Listed) (p : List ℕ) : Type 0 where
  pub many : ℕ
  pub within : many ≤ due s.loan
  pub lists : Lists many s o t p

pub begun : (s : Listed) (o : List ℕ) → Underway s o s o
unfolding stepped pieces
begun s o = record { many = 0; within = omega arith; lists = record { rows = omega arith; loan = refl; text = nothing s.at o } }

pub one_more : {s t u : Listed} {o p q : List ℕ} → Underway s o t p → Lists (min (due t.loan) portion_rows) t p u q → Underway s o u q
one_more {s} {t} {u} {o} {p} {q} w b = record {
  many = min (due t.loan) portion_rows + w.many;
  within = omega (arith, w.within, ap due w.lists.loan ∙ due_after w.many s.loan);
  lists = follows w.lists b;
}

-- a portion leaves fewer
pub fewer : {t u : Listed} {p q : List ℕ} → Lists (min (due t.loan) portion_rows) t p u q → (due u.loan ≡ 0 → ⊥) → due u.loan < due t.loan
fewer {t} {u} {p} {q} b h = omega (arith, ap due b.loan ∙ due_after (min (due t.loan) portion_rows) t.loan)

-- where nothing is left, all that were due are listed
pub all_listed : {s t : Listed} {o p : List ℕ} → Underway s o t p → due t.loan ≡ 0 → Lists (due s.loan) s o t p
all_listed {s} {t} {o} {p} w h =
    let e : w.many ≡ due s.loan = omega (arith, w.within, ap due w.lists.loan ∙ due_after w.many s.loan) in
    rw e at w.lists
