-- A book of three loans, 1200 at rate 0 over 3 months, one of term 0, and the first again, in rooms of several sizes: what is answered and what the lent lists hold, number by number. Assumes nothing.
use mathlib.Core.Path.{◌≡◌, refl}
use mathlib.Core.List.{List, [], ◌∷◌, ◌++◌, map}
use Prim.Native.Nat.{ℕ, ◌+◌, ◌-◌, ◌*◌}
use lib.ListN.{replicate}
use lib.Ieee.{Float, nan, binary64, add, sub, mul, div, lt, eq, of_int, of_bits}
use Rattle.elementary.specs.WholePower.{turns, whole_power}
use Rattle.refusals.specs.Outcome.{Outcome, refused, accepted, first_or, judged}
use Rattle.refusals.specs.Table.{bad_amount, bad_term, no_room, no_room_for_all, bad_record, bad_length, bad_total}
use Rattle.records.specs.Bytes.{value_of, whole_at, float_at}
use Rattle.records.specs.Kinds.{terms_size, terms_in, read_terms}
use Rattle.records.specs.EndToEnd.{record_at}
use Rattle.mortgage.specs.Payment.{monthly_rate, growth, equal_part, payment, loan_of, opened_with, opened}
use Rattle.mortgage.specs.Row.{width}
use Rattle.mortgage.specs.Rates as any_rates
use Rattle.mortgage.specs.Month as any_month
use Rattle.mortgage.specs.Month.{last}
use Rattle.mortgage.specs.RowRule.{interest_of, principal_of, payment_of, left_of}
use Rattle.steps.specs.Steps.{pieces, stepped}
use Rattle.book.specs.Book.{most_loans, loan_at, asked_by, finishing, finished, cut_short, answered, Progress, progress, room_after, answers_after, too_little, book_drawn, book_room, book_answers}

-- ---- the records, byte by byte
abbrev loan : List ℕ
loan = 1 ∷ 0 ∷ 0 ∷ 0 ∷ 0 ∷ 0 ∷ 0xc0 ∷ 0x92 ∷ 0x40 ∷ 0 ∷ 0 ∷ 0 ∷ 0 ∷ 0 ∷ 0 ∷ 0 ∷ 0 ∷ 3 ∷ 0 ∷ 0 ∷ 0 ∷ []

abbrev no_term : List ℕ
no_term = 1 ∷ 0 ∷ 0 ∷ 0 ∷ 0 ∷ 0 ∷ 0xc0 ∷ 0x92 ∷ 0x40 ∷ 0 ∷ 0 ∷ 0 ∷ 0 ∷ 0 ∷ 0 ∷ 0 ∷ 0 ∷ 0 ∷ 0 ∷ 0 ∷ 0 ∷ []

abbrev book : List ℕ
book = loan ++ no_term ++ loan

-- ---- its rows, as patterns, and a room of so many places
abbrev first : List ℕ
first = 0x3ff0_0000_0000_0000 ∷ 0x4079_0000_0000_0000 ∷ 0x4079_0000_0000_0000 ∷ 0 ∷ 0x4089_0000_0000_0000 ∷ []

abbrev second : List ℕ
second = 0x4000_0000_0000_0000 ∷ 0x4079_0000_0000_0000 ∷ 0x4079_0000_0000_0000 ∷ 0 ∷ 0x4079_0000_0000_0000 ∷ []

abbrev third : List ℕ
third = 0x4008_0000_0000_0000 ∷ 0x4079_0000_0000_0000 ∷ 0x4079_0000_0000_0000 ∷ 0 ∷ 0 ∷ []

abbrev numbers : List ℕ → List Float
numbers = map (of_bits binary64)

abbrev places : ℕ → List Float
places n = replicate n nan

abbrev answers : List ℕ
answers = 77 ∷ 77 ∷ 77 ∷ 77 ∷ []

abbrev Answered : ℕ → ℕ → ℕ → Outcome Progress
Answered done cut waiting = accepted (record { finished = done; cut = cut; waiting = waiting })

pub record Drawn : Type 0 where
  -- room for two rows: the first loan is cut short, and no other is started
  pub two : book_drawn book 4 (2 * width) ≡ Answered 0 2 2
  pub two_room : book_room book answers (places (2 * width)) ≡ numbers (first ++ second)
  pub two_answers : book_answers book answers (places (2 * width)) ≡ 0 ∷ 77 ∷ 77 ∷ 77 ∷ []
  -- room for three and a piece: the refused loan is finished too, and the third finds no room for a row
  pub three : book_drawn book 4 (3 * width + 2) ≡ Answered 2 0 1
  pub three_room : book_room book answers (places (3 * width + 2)) ≡ numbers (first ++ second ++ third) ++ places 2
  pub three_answers : book_answers book answers (places (3 * width + 2)) ≡ 0 ∷ 2 ∷ 77 ∷ 77 ∷ []
  -- room for one more: it is cut short after a month
  pub four : book_drawn book 4 (4 * width) ≡ Answered 2 1 0
  pub four_room : book_room book answers (places (4 * width)) ≡ numbers (first ++ second ++ third ++ first)
  pub four_answers : book_answers book answers (places (4 * width)) ≡ 0 ∷ 2 ∷ 0 ∷ 77 ∷ []
  -- room for all and a place
  pub all : book_drawn book 4 (6 * width + 1) ≡ Answered 3 0 0
  pub all_room : book_room book answers (places (6 * width + 1)) ≡ numbers (first ++ second ++ third ++ first ++ second ++ third) ++ places 1
  pub all_answers : book_answers book answers (places (6 * width + 1)) ≡ 0 ∷ 2 ∷ 0 ∷ 77 ∷ []
  -- no row of the first accepted loan, or too few answers
  pub no_row : book_drawn book 4 (width - 1) ≡ refused 3 0
  pub no_row_behind : book_drawn (no_term ++ loan) 4 (width - 1) ≡ refused 3 0
  pub few_answers : book_drawn book 2 (6 * width + 1) ≡ refused 3 0
  pub unchanged : book_room book answers (places (width - 1)) ≡ places (width - 1)
  -- refused loans ask for no room, and an empty book for nothing
  pub none_accepted : book_drawn (no_term ++ no_term) 2 0 ≡ Answered 2 0 0
  pub empty : book_drawn [] 0 0 ≡ Answered 0 0 0
  -- a byte less than a record, and one record more than a call takes: 11 and nothing else
  pub odd : book_drawn (replicate (terms_size - 1) 1) 0 0 ≡ refused 11 0
  pub too_many : book_drawn (replicate ((most_loans + 1) * terms_size) 0) 0 0 ≡ refused 11 0

pub drawn : Drawn
unfolding record_at loan_at asked_by finishing finished cut_short answered progress room_after answers_after too_little book_drawn book_room book_answers first_or judged bad_amount bad_term no_room no_room_for_all bad_record bad_length bad_total value_of whole_at float_at terms_in read_terms monthly_rate payment growth equal_part whole_power turns loan_of opened_with opened any_month.end_month any_month.due last interest_of principal_of payment_of left_of any_month.row_of any_month.row_on any_month.paid any_month.principal any_month.remaining any_month.interest_alone any_rates.in_force any_month.next_of any_month.next_on stepped pieces add sub mul div lt eq of_int of_bits
drawn = record {
  two = refl;
  two_room = refl;
  two_answers = refl;
  three = refl;
  three_room = refl;
  three_answers = refl;
  four = refl;
  four_room = refl;
  four_answers = refl;
  all = refl;
  all_room = refl;
  all_answers = refl;
  no_row = refl;
  no_row_behind = refl;
  few_answers = refl;
  unchanged = refl;
  none_accepted = refl;
  empty = refl;
  odd = refl;
  too_many = refl;
}
