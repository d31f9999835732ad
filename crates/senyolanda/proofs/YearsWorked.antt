-- Year-end lines as C gets them, of a loan of 14 months at rate 0 that is opened with its payment given: a draw of 13 rows, a draw that is refused and a draw of the last row, with the same
-- lines lent to each; and lookups after the first of them and after the last. Assumes nothing.
use mathlib.Core.Path.{◌≡◌, refl}
use mathlib.Core.List.{List, [], ◌∷◌, ◌++◌, map}
use Prim.Native.Nat.{ℕ, ◌-◌, ◌*◌}
use lib.IntN.{pos}
use lib.ListN.{replicate}
use lib.Ieee.{Float, nan, binary64, sub, mul, div, lt, of_int, of_bits}
use Rattle.refusals.specs.Outcome.{judged}
use Rattle.refusals.specs.Table.{bad_amount, bad_term, no_room, too_few_lines, past_end, bad_record, no_row_drawn}
use Rattle.records.specs.Bytes.{whole_at, float_at}
use Rattle.records.specs.Kinds.{read_terms}
use Rattle.steps.specs.Steps.{pieces, stepped}
use Rattle.mortgage.specs.Payment.{monthly_rate, loan_of, opened_with}
use Rattle.mortgage.specs.Row.{width}
use Rattle.mortgage.specs.RowRule.{interest_of, principal_of, payment_of, left_of}
use Rattle.mortgage.specs.Rates as any_rates
use Rattle.mortgage.specs.Month as any_month
use Rattle.mortgage.specs.Draws as any_draws
use Rattle.mortgage.specs.YearDraws as any_years
use Rattle.mortgage.specs.Kinds.{level}
use Rattle.mortgage.specs.Level.{filled_with_years, summed}
use Rattle.mortgage.specs.Month.{last}
use Rattle.mortgage.specs.Years.{year_width, with_row, goes_on_from, entered, entered_up_to}
use Rattle.senyolanda.specs.Told.{told}
use Rattle.senyolanda.specs.Calls.{Kept, in_hand, open_with_answer}
use Rattle.senyolanda.specs.YearCalls.{year_draw_answer, lookup_answer}

abbrev number : ℕ → Float
number n = of_int binary64 (pos n)

-- so many lent places with nothing in them yet
abbrev lent : ℕ → List Float
lent places = replicate places nan

-- ---- the loan
-- principal 1400, rate 0, term 14, as 21 bytes
abbrev bytes : List ℕ
bytes = 1 ∷ 0 ∷ 0 ∷ 0 ∷ 0 ∷ 0 ∷ 224 ∷ 149 ∷ 64 ∷ 0 ∷ 0 ∷ 0 ∷ 0 ∷ 0 ∷ 0 ∷ 0 ∷ 0 ∷ 14 ∷ 0 ∷ 0 ∷ 0 ∷ []

-- term and months done; rate, payment and balance: 100 a month
abbrev loan_at : ℕ → ℕ → Kept
loan_at done balance = (14 ∷ done ∷ [], map number (0 ∷ 100 ∷ balance ∷ []))

pub opens : open_with_answer bytes (number 100) (7 ∷ 7 ∷ [], lent 3) ≡ (0, loan_at 0 1400)
unfolding told read_terms bad_record float_at whole_at judged opened_with bad_amount bad_term loan_of lt of_int of_bits
opens = refl

-- ---- the calls
-- what a draw hands back: the loan's counts and amounts, rows written, rows owed
abbrev handed : Kept → ℕ → ℕ → List ℕ × List Float × ℕ × ℕ
handed k written owed = (k.0, k.1, written, owed)

abbrev draw_with_years_answer : Kept → List Float → List Float → ℕ × (List ℕ × List Float × ℕ × ℕ)
draw_with_years_answer k room years = year_draw_answer level (k, years) (room, 9, 9)

-- a line's months, interest, principal and balance
abbrev look_up_year_answer : Kept → List Float → ℕ → ℕ × List Float
look_up_year_answer k years year = lookup_answer level (k, years) year (lent year_width)

-- the lines once the first year is full: that year's, the second year's, and one place more than they take
abbrev lines_with : List ℕ → List Float
lines_with second = map number (12 ∷ 0 ∷ 1200 ∷ 200 ∷ second) ++ nan ∷ []

-- the second year's, of its first month and of both
abbrev begun : List ℕ
begun = 1 ∷ 0 ∷ 100 ∷ 100 ∷ []

abbrev ended : List ℕ
ended = 2 ∷ 0 ∷ 200 ∷ 0 ∷ []

-- ---- room for 13 rows: 13 written, 1 owed
pub thirteen_drawn : draw_with_years_answer (loan_at 0 1400) (lent (13 * width)) (lent 9) ≡ (0, handed (loan_at 13 100) 13 1)
unfolding told any_years.drawn_with_years judged bad_term no_room too_few_lines past_end any_draws.portion any_month.due stepped any_month.next_of any_month.next_on any_month.remaining any_month.principal any_month.interest_alone any_rates.in_force left_of principal_of interest_of last monthly_rate sub mul div lt of_int of_bits
thirteen_drawn = refl

pub thirteen_entered : summed (in_hand (loan_at 0 1400)) (lent (13 * width)) (lent 9) ≡ lines_with begun
unfolding any_years.summed any_years.drawn_with_years judged bad_term no_room too_few_lines past_end any_draws.portion any_month.due stepped entered_up_to entered goes_on_from with_row any_month.row_of any_month.row_on any_month.paid any_month.principal any_month.remaining any_month.interest_alone any_rates.in_force any_month.next_of any_month.next_on left_of principal_of interest_of last monthly_rate sub mul div lt of_int of_bits
thirteen_entered = refl

pub second_year_begun : look_up_year_answer (loan_at 13 100) (lines_with begun) 2 ≡ (0, map number begun)
unfolding told any_years.looked_up judged bad_term too_few_lines past_end no_row_drawn any_month.end_month
second_year_begun = refl

-- ---- room for no whole row: refusal 3, and nothing changes
pub none_drawn : draw_with_years_answer (loan_at 13 100) (lent (width - 1)) (lines_with begun) ≡ (3, handed (loan_at 13 100) 9 9)
unfolding told any_years.drawn_with_years judged bad_term no_room any_month.due
none_drawn = refl

pub none_laid : filled_with_years (in_hand (loan_at 13 100)) (lent (width - 1)) (lines_with begun) ≡ lent (width - 1)
unfolding any_years.filled_with_years any_years.drawn_with_years judged bad_term no_room any_month.due
none_laid = refl

pub none_entered : summed (in_hand (loan_at 13 100)) (lent (width - 1)) (lines_with begun) ≡ lines_with begun
unfolding any_years.summed any_years.drawn_with_years judged bad_term no_room any_month.due
none_entered = refl

-- ---- room for 5 rows: the last one written, none owed, and the place behind the lines as it was
pub last_drawn : draw_with_years_answer (loan_at 13 100) (lent (5 * width)) (lines_with begun) ≡ (0, handed (loan_at 14 0) 1 0)
unfolding told any_years.drawn_with_years judged bad_term no_room too_few_lines past_end any_draws.portion any_month.due stepped any_month.next_of any_month.next_on any_month.remaining any_month.principal any_month.interest_alone any_rates.in_force left_of principal_of last sub of_int
last_drawn = refl

pub last_laid : filled_with_years (in_hand (loan_at 13 100)) (lent (5 * width)) (lines_with begun) ≡ map number (14 ∷ 100 ∷ 100 ∷ 0 ∷ 0 ∷ []) ++ lent (4 * width)
unfolding any_years.filled_with_years any_years.drawn_with_years judged bad_term no_room too_few_lines past_end any_draws.portion any_month.due pieces stepped any_month.row_of any_month.row_on any_month.paid any_month.principal any_month.remaining any_month.interest_alone any_rates.in_force left_of payment_of principal_of interest_of last monthly_rate sub mul div lt of_int of_bits
last_laid = refl

pub last_entered : summed (in_hand (loan_at 13 100)) (lent (5 * width)) (lines_with begun) ≡ lines_with ended
unfolding any_years.summed any_years.drawn_with_years judged bad_term no_room too_few_lines past_end any_draws.portion any_month.due stepped entered_up_to entered goes_on_from with_row any_month.row_of any_month.row_on any_month.paid any_month.principal any_month.remaining any_month.interest_alone any_rates.in_force left_of principal_of interest_of last monthly_rate sub mul div lt of_int of_bits
last_entered = refl

-- ---- the second year, cut short; no year after it has a row, and none is before the first
pub second_year : look_up_year_answer (loan_at 14 0) (lines_with ended) 2 ≡ (0, map number ended)
unfolding told any_years.looked_up judged bad_term too_few_lines past_end no_row_drawn any_month.end_month
second_year = refl

pub no_third_year : look_up_year_answer (loan_at 14 0) (lines_with ended) 3 ≡ (14, lent year_width)
unfolding told any_years.looked_up judged bad_term too_few_lines past_end no_row_drawn any_month.end_month
no_third_year = refl

pub no_year_0 : look_up_year_answer (loan_at 14 0) (lines_with ended) 0 ≡ (14, lent year_width)
unfolding told any_years.looked_up judged bad_term too_few_lines past_end no_row_drawn any_month.end_month
no_year_0 = refl
