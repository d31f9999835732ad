-- One draw, of a loan in hand of any kind into any room: what is written and what stays owed are the rows due, a finished loan draws nothing, places beyond the rows stay,
-- a refusal changes nothing, a draw with room writes a row, and the loan handed back stands after the rows written. Assumes nothing.
use mathlib.Core.Path.{◌≡◌, refl, sym, ap, ◌∙◌}
use mathlib.Core.Logic.{inl, inr}
use mathlib.Core.Bool.{false}
use mathlib.Core.List.{List}
use Prim.Native.Nat.{ℕ, ◌+◌, ◌-◌, ◌*◌, ◌<◌, ◌≤◌}
use native.Mathlib.Nat.{eq-zero-or-pos}
use native.Mathlib.Omega.{arith}
use lib.ListN.{length, take, drop}
use lib.Seq.{take_at, drop_at}
use lib.Ieee.{Float}
use borrow.Author.Tests.{lt-ltb, le-ltb}
use Rattle.refusals.specs.Outcome.{Outcome, refused, accepted}
use Rattle.refusals.proofs.Verdicts.{accepted_value}
use Rattle.refusals.specs.Table.{bad_term, no_room}
use Rattle.mortgage.specs.declared.Loan.{Loan}
use Rattle.mortgage.specs.declared.draws.Portion.{Portion}
use Rattle.mortgage.specs.Row.{width}
use Rattle.mortgage.specs.Kinds.{Way}
use Rattle.mortgage.specs.Month.{end_month, due, next_of}
use Rattle.steps.specs.Steps.{pieces, stepped, laid}
use Rattle.mortgage.specs.Rows.{after, rows}
use Rattle.mortgage.specs.Draws.{draw_lines, count, portion, drawn, filled_by, filled}
use Rattle.mortgage.specs.Demand3.{rows_in, handed_back, wrote}
use Rattle.steps.proofs.Portions.{length_written}
use Rattle.mortgage.proofs.DrawCases.{row_places, wide, Fits, drawable_draws}

module _ (way : Way) where
  -- ---- so many rows are so many times their places
  pub length_rows : (k : ℕ) (l : Loan) → length (rows way k l) ≡ k * width
  length_rows = length_written (next_of way) (row_places way) width (wide way)

  -- ---- an accepted draw
  module _ (l : Loan) (room : List Float) (d : Portion) (e : drawn way l room ≡ accepted d) where
    portion_is : d ≡ portion way l (length room)
    unfolding drawn
    portion_is = accepted_value (draw_lines way l (length room)) (portion way l (length room)) d e

    pub written_is : d.written ≡ count way l (length room)
    unfolding portion
    written_is = ap (λ (p : Portion). p.written) portion_is

    owed_is : d.owed ≡ due way l - count way l (length room)
    unfolding portion
    owed_is = ap (λ (p : Portion). p.owed) portion_is

    pub filled_is : filled way l room ≡ laid width d.written (rows way d.written l) room
    unfolding filled
    filled_is = ap (λ (o : Outcome Portion). filled_by way o l room) e

    -- "Written plus owed is the term less the months done before."
    pub written_plus_owed : d.written + d.owed ≡ end_month way l - l.done
    unfolding due
    written_plus_owed = omega (arith, written_is, owed_is)

    pub written_within : d.written ≤ due way l
    written_within = omega (arith, written_is)

    -- "A finished loan writes 0 and owes 0, whatever the room."
    pub finished_draws_nothing : due way l ≡ 0 → (d.written ≡ 0) × (d.owed ≡ 0) × (filled way l room ≡ room)
    unfolding pieces
    finished_draws_nothing h =
        let w : d.written ≡ 0 = omega (arith, written_is) in
        (w, omega (arith, owed_is), filled_is ∙ rw w)

    -- "Other places stay."
    pub beyond_stays : drop (d.written * width) (filled way l room) ≡ drop (d.written * width) room
    beyond_stays =
        ap (drop (d.written * width)) filled_is ∙ drop_at (rows way d.written l) (drop (d.written * width) room) (d.written * width) (length_rows d.written l)

    -- "A draw with room writes at least one row."
    pub draws_at_least_one : 0 < due way l → width ≤ length room → 0 < d.written
    draws_at_least_one h r = omega (arith, written_is)

    pub hands_on : d.loan ≡ after way d.written l
    unfolding portion
    hands_on = ap (λ (p : Portion). p.loan) portion_is ∙ ap (λ (k : ℕ). after way k l) (sym written_is)

  -- ---- a refused draw
  pub refused_changes_nothing : (l : Loan) (room : List Float) (k p : ℕ) → drawn way l room ≡ refused k p → filled way l room ≡ room
  unfolding filled
  refused_changes_nothing l room k p e = rw e

  -- ---- a draw, accepted or refused
  module _ (l : Loan) (room : List Float) where
    -- the numbers written are so many rows by the row rule
    pub wrote_is : wrote way l room ≡ rows way (rows_in (drawn way l room)) l
    unfolding wrote filled pieces
    wrote_is = go (drawn way l room)
      where
        go : (o : Outcome Portion) → take (rows_in o * width) (filled_by way o l room) ≡ rows way (rows_in o) l
        go (refused k p) = refl
        go (accepted d) = take_at (rows way d.written l) (drop (d.written * width) room) (d.written * width) (length_rows d.written l)

    pub rows_within : rows_in (drawn way l room) ≤ due way l
    rows_within = go (drawn way l room) refl
      where
        go : (o : Outcome Portion) → drawn way l room ≡ o → rows_in o ≤ due way l
        go (refused k p) e = omega arith
        go (accepted d) e = written_within l room d e

    -- a draw with room, of rows that are due, has no cause
    draws_if_room : bad_term l.term ≡ false → Fits way l.term → 0 < count way l (length room) → accepted (portion way l (length room)) ≡ drawn way l room
    unfolding due no_room
    draws_if_room good fits h =
        drawable_draws way l room (record { good_term = good; within = omega arith; kind_fits = fits }) (rw (lt-ltb 0 (due way l) (omega arith), le-ltb (length room) width (omega arith)))

    -- "A draw writes as many rows as the room holds and the term still owes": none where it is refused, past the end or for want of room
    pub rows_drawn : bad_term l.term ≡ false → Fits way l.term → rows_in (drawn way l room) ≡ count way l (length room)
    unfolding portion
    rows_drawn good fits = elim (eq-zero-or-pos (count way l (length room))) [
      | inl z ↦ go (drawn way l room) refl z
      | inr h ↦ sym (ap rows_in (draws_if_room good fits h))
    ]
      where
        go : (o : Outcome Portion) → drawn way l room ≡ o → count way l (length room) ≡ 0 → rows_in o ≡ count way l (length room)
        go (refused k p) e z = sym z
        go (accepted d) e z = written_is l room d e

    pub handed_back_lem : handed_back (drawn way l room) l ≡ after way (rows_in (drawn way l room)) l
    unfolding stepped
    handed_back_lem = go (drawn way l room) refl
      where
        go : (o : Outcome Portion) → drawn way l room ≡ o → handed_back o l ≡ after way (rows_in o) l
        go (refused k p) e = refl
        go (accepted d) e = hands_on l room d e
