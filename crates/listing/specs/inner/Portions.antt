-- What the helpers promise that list a loan portion by portion, from the numbers in a room. Definitions only. Assumes nothing.
use Rattle.std.specs.Prelude.{◌≡◌, false, List, ℕ, ◌+◌, ◌-◌, ◌*◌, ◌^◌, ◌<◌, ◌≤◌, get_or, Float}
use Rattle.std.specs.Float.{nan}
use Rattle.refusals.specs.Table.{bad_term}
use Rattle.steps.specs.Steps.{pieces}
use Rattle.records.specs.declared.Row.{Row}
use Rattle.mortgage.specs.declared.Loan.{Loan}
use Rattle.mortgage.specs.Row.{width, payment_place, principal_place, interest_place, balance_place}
use Rattle.mortgage.specs.Level.{end_month, due, after}
use Rattle.listing.specs.declared.portions.Listed.{Listed}
use Rattle.listing.specs.Listing.{row_line, row_lines}
use Rattle.listing.specs.inner.Putting.{Put}

-- the row in a room's places from a place on, with its month as a whole number
unfoldable pub row_at : ℕ → List Float → ℕ → Row
row_at month room place = record {
  month = month;
  payment = get_or room (place + payment_place) nan;
  principal = get_or room (place + principal_place) nan;
  interest = get_or room (place + interest_place) nan;
  balance = get_or room (place + balance_place) nan;
}

-- the lines of the first k rows of a room, the first of them for the month after those done
abbrev pub room_lines : ℕ → List Float → ℕ → List ℕ
room_lines done room k = pieces (λ (i : ℕ). row_line (row_at (done + i + 1) room (i * width))) k

-- a row's line is at most so long: a month of ten digits, a space and 16 digits for each number behind it, and the line's end
abbrev pub line_room : ℕ
line_room = 10 + (width - 1) * 17 + 1

-- bytes enough for the listing of any loan
abbrev pub listing_room : ℕ
listing_room = 96000

-- the rows of a portion, unless fewer are due
abbrev pub portion_rows : ℕ
portion_rows = 12

-- a loan that no draw with room refuses
pub record InHand (l : Loan) : Type 0 where
  pub term : bad_term l.term ≡ false
  pub done : l.done ≤ end_month l

-- such a loan whose rows due can be counted and have room for their lines
pub record Listable (s : Listed) (room : ℕ) : Type 0 where
  pub drawable : InHand s.loan
  pub count : s.rows + due s.loan < 2 ^ 32
  pub lines : s.at + due s.loan * line_room ≤ room

-- the next k rows of the loan are listed
pub record Lists (k : ℕ) (s : Listed) (before : List ℕ) (t : Listed) (after' : List ℕ) : Type 0 where
  pub rows : t.rows ≡ s.rows + k
  pub loan : t.loan ≡ after k s.loan
  pub text : Put (row_lines k s.loan) s.at before t.at after'
