-- Document 01's loan of three months from its record's bytes: its first row asked for alone, a draw that is refused, and a draw of two rows. What was filed repays it, and is the paper's
-- listing; so is its text. And a payment at a vanishing rate. Assumes nothing.
use mathlib.Core.Path.{◌≡◌, refl}
use mathlib.Core.List.{List, [], ◌∷◌, ◌++◌, map}
use Prim.Native.Nat.{ℕ, ◌-◌, ◌*◌}
use lib.ListN.{replicate}
use lib.Ieee.{Float, nan, binary64, add, sub, mul, div, lt, eq, of_int, of_bits, to_bits}
use Rattle.elementary.specs.WholePower.{turns, whole_power}
use Rattle.refusals.specs.Outcome.{accepted, and_then, first_or, judged}
use Rattle.refusals.specs.Table.{bad_amount, bad_term, no_room, past_end, bad_record}
use Rattle.records.specs.Bytes.{value_of, bytes_of, whole_at, float_at, whole_bytes, float_bytes}
use Rattle.records.specs.Kinds.{terms_in, read_terms, row_size, row_bytes, row_in}
use Rattle.mortgage.specs.Payment.{monthly_rate, growth, equal_part, payment, monthly_payment, loan_of, opened_with, opened}
use Rattle.mortgage.specs.Rates as any_rates
use Rattle.mortgage.specs.Month as any_month
use Rattle.mortgage.specs.Rows as any_rows
use Rattle.mortgage.specs.Draws as any_draws
use Rattle.mortgage.specs.Kinds.{level}
use Rattle.mortgage.specs.Level.{due}
use Rattle.mortgage.specs.Month.{last}
use Rattle.mortgage.specs.RowRule.{interest_of, principal_of, payment_of, left_of}
use Rattle.steps.specs.Steps.{pieces, stepped}
use Rattle.steps.specs.Calls.{filed as all_filed, left}
use Rattle.mortgage.specs.Row.{width}
use Rattle.mortgage.specs.Demand3.{Repaid}
use Rattle.listing.specs.Digits.{hex_digits, decimal_digits, decimal}
use Rattle.listing.specs.Listing.{header, spaced as spaced_of, row_line, footer, loan_lines, listed, listed_size, lines_over}
use Rattle.senyolanda.specs.Told.{told, told_number}
use Rattle.senyolanda.specs.Calls.{Kept, in_hand, open_answer, Call, draw, next_row_call, files, kept_after, filed, kept}
use Rattle.senyolanda.proofs.AtTheDoor.{demand3_at_the_door}

-- "Principal 1200, rate 0, term 3", as 21 bytes
abbrev bytes : List ℕ
bytes = 1 ∷ 0 ∷ 0 ∷ 0 ∷ 0 ∷ 0 ∷ 192 ∷ 146 ∷ 64 ∷ 0 ∷ 0 ∷ 0 ∷ 0 ∷ 0 ∷ 0 ∷ 0 ∷ 0 ∷ 3 ∷ 0 ∷ 0 ∷ 0 ∷ []

-- what stood in the places does not matter
abbrev before : Kept
before = (7 ∷ 7 ∷ [], nan ∷ nan ∷ nan ∷ [])

abbrev number : ℕ → Float
number = of_bits binary64

-- term and months done; rate, payment and balance
abbrev loan : Kept
loan = (3 ∷ 0 ∷ [], number 0 ∷ number 0x4079_0000_0000_0000 ∷ number 0x4092_c000_0000_0000 ∷ [])

abbrev calls : List Call
calls = next_row_call (replicate row_size 255) 9 9 ∷ draw (replicate (width - 1) nan) 9 9 ∷ draw (replicate (2 * width) nan) 9 9 ∷ []

pub opens : open_answer bytes before ≡ (0, loan)
unfolding told read_terms bad_record terms_in float_at whole_at value_of judged first_or opened opened_with bad_amount bad_term loan_of payment growth equal_part whole_power turns monthly_rate eq add mul div lt of_int of_bits
opens = refl

pub to_the_end : due (in_hand (kept level loan calls)) ≡ 0
unfolding left kept_after told any_rows.next_row any_draws.drawn judged first_or bad_term no_room past_end any_draws.portion any_month.due any_month.end_month stepped any_month.next_of any_month.next_on any_month.remaining any_month.principal any_month.interest_alone any_rates.in_force
to_the_end = refl

-- "1 4079000000000000 4079000000000000 0000000000000000 4089000000000000", and so on, with the month as a number
pub listing : filed level loan calls ≡ map number
    (0x3ff0_0000_0000_0000 ∷ 0x4079_0000_0000_0000 ∷ 0x4079_0000_0000_0000 ∷ 0 ∷ 0x4089_0000_0000_0000
    ∷ 0x4000_0000_0000_0000 ∷ 0x4079_0000_0000_0000 ∷ 0x4079_0000_0000_0000 ∷ 0 ∷ 0x4079_0000_0000_0000
    ∷ 0x4008_0000_0000_0000 ∷ 0x4079_0000_0000_0000 ∷ 0x4079_0000_0000_0000 ∷ 0 ∷ 0 ∷ [])
unfolding all_filed files kept_after told any_rows.next_row row_bytes row_in whole_bytes float_bytes bytes_of whole_at float_at value_of to_bits any_draws.filled any_draws.drawn judged first_or bad_term no_room past_end any_draws.portion any_month.due any_month.end_month stepped pieces any_month.row_of any_month.row_on any_month.paid any_month.principal any_month.remaining any_month.interest_alone any_rates.in_force any_month.next_of any_month.next_on left_of payment_of principal_of interest_of last monthly_rate add sub mul div lt of_int of_bits
listing = refl

-- ---- the same as text

-- a space, and a float's pattern as 16 hexadecimal digits
abbrev spaced : ℕ → List ℕ
spaced pattern = 32 ∷ hex_digits 16 pattern

-- a row's line, from its month's one digit
abbrev line_of : ℕ → List ℕ → List ℕ
line_of digit amounts = digit ∷ [] ++ amounts ++ 10 ∷ []

-- "1 4079000000000000 4079000000000000 0000000000000000 4089000000000000", and so on, between the names of the columns and "rows 3 left 0"
abbrev text : List ℕ
text = header
    ++ line_of 49 (spaced 0x4079_0000_0000_0000 ++ spaced 0x4079_0000_0000_0000 ++ spaced 0 ++ spaced 0x4089_0000_0000_0000)
    ++ line_of 50 (spaced 0x4079_0000_0000_0000 ++ spaced 0x4079_0000_0000_0000 ++ spaced 0 ++ spaced 0x4079_0000_0000_0000)
    ++ line_of 51 (spaced 0x4079_0000_0000_0000 ++ spaced 0x4079_0000_0000_0000 ++ spaced 0 ++ spaced 0)
    ++ 114 ∷ 111 ∷ 119 ∷ 115 ∷ 32 ∷ 51 ∷ 32 ∷ 108 ∷ 101 ∷ 102 ∷ 116 ∷ 32 ∷ 48 ∷ 10 ∷ []

listed_text : listed bytes ≡ accepted text
unfolding listed loan_lines row_line footer spaced_of decimal decimal_digits hex_digits to_bits read_terms bad_record terms_in float_at whole_at value_of judged first_or opened opened_with bad_amount bad_term loan_of payment growth equal_part whole_power turns monthly_rate any_month.due any_month.end_month stepped pieces any_month.row_of any_month.row_on any_month.paid any_month.principal any_month.remaining any_month.interest_alone any_rates.in_force any_month.next_of any_month.next_on left_of payment_of principal_of interest_of last add sub mul div lt eq of_int of_bits
listed_text = refl

-- 265 bytes at the start of what was lent, and the bytes behind them as they were
pub listing_size : told_number (listed_size bytes) 7 ≡ (0, 265)
unfolding listed_size told hex_digits
listing_size = rw listed_text

pub listing_text : lines_over (listed bytes) (replicate 270 9) ≡ text ++ replicate 5 9
unfolding lines_over hex_digits
listing_text = rw listed_text

-- ---- 1000 at 1e-17 over 2 months: the payment that C gets is 500
abbrev vanishing : List ℕ
vanishing = 1 ∷ 0 ∷ 0 ∷ 0 ∷ 0 ∷ 0 ∷ 64 ∷ 143 ∷ 64 ∷ 151 ∷ 212 ∷ 70 ∷ 70 ∷ 245 ∷ 14 ∷ 103 ∷ 60 ∷ 2 ∷ 0 ∷ 0 ∷ 0 ∷ []

pub vanishing_payment : told_number (and_then (read_terms vanishing) monthly_payment) nan ≡ (0, number 0x407f_4000_0000_0000)
unfolding told read_terms bad_record terms_in float_at whole_at value_of judged first_or monthly_payment bad_amount bad_term payment growth equal_part whole_power turns monthly_rate eq add mul div lt of_int of_bits
vanishing_payment = refl

-- ---- the theorem, of this loan and these calls
pub repaid_by_the_calls : Repaid (number 0x4092_c000_0000_0000) 3 (filed level loan calls)
unfolding told read_terms bad_record terms_in float_at whole_at value_of judged first_or opened opened_with bad_amount bad_term loan_of payment growth equal_part whole_power turns monthly_rate eq add mul div lt of_int of_bits
repaid_by_the_calls = (demand3_at_the_door bytes before refl calls to_the_end).1
