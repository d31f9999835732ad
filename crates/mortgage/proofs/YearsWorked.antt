-- Figures of year-end lines, by hand: document 01's loans of 2 and of 3 months are years cut short; a loan of 14 months has one year and two months more, also drawn as 13 rows, then into rooms that are
-- refused, then as one row, with lines that held something else; and what a lookup gives after each. Assumes nothing.
use mathlib.Core.Path.{◌≡◌, refl}
use mathlib.Core.List.{List, [], ◌∷◌, ◌++◌}
use Prim.Native.Nat.{ℕ, ◌-◌, ◌*◌}
use lib.ListN.{replicate}
use lib.Ieee.{Float, nan, binary64, add, sub, mul, div, lt, of_int, of_bits}
use Rattle.numbers.specs.Sums.{added_up}
use Rattle.refusals.specs.Outcome.{refused, accepted, first_or, judged}
use Rattle.refusals.specs.Table.{bad_term, no_room, too_few_lines, past_end, no_row_drawn}
use Rattle.steps.specs.Steps.{pieces, stepped}
use Rattle.steps.specs.Calls as calls
use Rattle.mortgage.specs.declared.Loan.{Loan}
use Rattle.mortgage.specs.declared.years.Year.{Year}
use Rattle.mortgage.specs.Row.{width}
use Rattle.mortgage.specs.Payment.{monthly_rate}
use Rattle.mortgage.specs.Rates.{in_force}
use Rattle.mortgage.specs.Month.{interest_alone, last, principal, paid, remaining, row_on, next_on, end_month, due, row_of, next_of}
use Rattle.mortgage.specs.RowRule.{interest_of, principal_of, payment_of}
use Rattle.mortgage.specs.Draws.{portion}
use Rattle.mortgage.specs.Years.{year_line, year_places, with_row, goes_on_from, entered, entered_up_to}
use Rattle.mortgage.specs.YearDraws as year_draws
use Rattle.mortgage.specs.Summary.{Kept}
use Rattle.mortgage.specs.Level.{rows, drawn_with_years, looked_up, kept_after, kept}

abbrev number : ℕ → Float
number n = of_bits binary64 n

-- a line by the patterns of its numbers
abbrev line : ℕ → ℕ → ℕ → ℕ → Year
line m i p b = record { months = number m; interest = number i; principal = number p; balance = number b }

-- ---- the definition alone, over the rows
-- "P 1000, rate 6, n 2: payment 900, principals 400, 600": interest 500 and 300
abbrev two_months : Loan
two_months = record { term = 2; rate = number 0x4018_0000_0000_0000; payment = number 0x408c_2000_0000_0000; done = 0; balance = number 0x408f_4000_0000_0000 }

-- 2 months, interest 800, principal 1000, balance 0; after the first row 1 month, 500, 400, 600
pub two_months_lem : year_line (rows 2 two_months) 1 ≡ line 0x4000_0000_0000_0000 0x4089_0000_0000_0000 0x408f_4000_0000_0000 0
unfolding year_line added_up stepped pieces row_of next_of row_on next_on in_force interest_alone last principal paid remaining payment_of principal_of interest_of end_month monthly_rate add sub mul div lt of_int of_bits
two_months_lem = refl

pub one_month_of_two : year_line (rows 1 two_months) 1 ≡ line 0x3ff0_0000_0000_0000 0x407f_4000_0000_0000 0x4079_0000_0000_0000 0x4082_c000_0000_0000
unfolding year_line added_up stepped pieces row_of next_of row_on next_on in_force interest_alone last principal paid remaining payment_of principal_of interest_of end_month monthly_rate add sub mul div lt of_int of_bits
one_month_of_two = refl

-- "NaN rate, n 2: principals 0, 1000": the interest is NaN, the principal can be trusted
pub nan_rate : year_line (rows 2 (record { term = 2; rate = nan; payment = nan; done = 0; balance = number 0x408f_4000_0000_0000 })) 1
    ≡ record { months = number 0x4000_0000_0000_0000; interest = nan; principal = number 0x408f_4000_0000_0000; balance = number 0 }
unfolding year_line added_up stepped pieces row_of next_of row_on next_on in_force interest_alone last principal paid remaining payment_of principal_of interest_of end_month monthly_rate add sub mul div lt of_int of_bits
nan_rate = refl

-- ---- 1400 at rate 0, 100 a month: two lines and a place more, which held ones
abbrev fourteen : Loan
fourteen = record { term = 14; rate = number 0; payment = number 0x4059_0000_0000_0000; done = 0; balance = number 0x4095_e000_0000_0000 }

abbrev lent : Kept
lent = (fourteen, replicate 9 (number 0x3ff0_0000_0000_0000))

-- 13 rows; a room too small for one; one row
abbrev rooms : List (List Float)
rooms = replicate (13 * width) nan ∷ replicate (width - 1) nan ∷ replicate width nan ∷ []

-- 12 months, no interest, 1200, 200 left; 2 months, no interest, 200, nothing left; and the ninth place
abbrev first : Year
first = line 0x4028_0000_0000_0000 0 0x4092_c000_0000_0000 0x4069_0000_0000_0000

abbrev second : Year
second = line 0x4000_0000_0000_0000 0 0x4069_0000_0000_0000 0

pub lines_left : (kept lent rooms).1 ≡ year_places first ++ year_places second ++ (number 0x3ff0_0000_0000_0000 ∷ [])
unfolding calls.left year_draws.drawn_with_years year_draws.summed judged first_or bad_term no_room too_few_lines past_end portion due end_month stepped entered_up_to entered with_row goes_on_from row_of next_of row_on next_on in_force interest_alone last principal paid remaining payment_of principal_of interest_of monthly_rate add sub mul div lt of_int of_bits
lines_left = refl

-- after the first draw year 2 has one month, and year 3 no row
pub year_2_begun : looked_up (kept_after lent (replicate (13 * width) nan)).0 (kept_after lent (replicate (13 * width) nan)).1 2 ≡ accepted (line 0x3ff0_0000_0000_0000 0 0x4059_0000_0000_0000 0x4059_0000_0000_0000)
unfolding year_draws.looked_up no_row_drawn year_draws.drawn_with_years year_draws.summed judged first_or bad_term no_room too_few_lines past_end portion due end_month stepped entered_up_to entered with_row goes_on_from row_of next_of row_on next_on in_force interest_alone last principal paid remaining payment_of principal_of interest_of monthly_rate add sub mul div lt of_int of_bits
year_2_begun = refl

pub no_year_2_yet : looked_up (kept_after lent (replicate (12 * width) nan)).0 (kept_after lent (replicate (12 * width) nan)).1 2 ≡ refused 14 0
unfolding year_draws.looked_up no_row_drawn year_draws.drawn_with_years year_draws.summed judged first_or bad_term no_room too_few_lines past_end portion due end_month stepped entered_up_to entered with_row goes_on_from row_of next_of row_on next_on in_force interest_alone last principal paid remaining payment_of principal_of interest_of monthly_rate add sub mul div lt of_int of_bits
no_year_2_yet = refl

pub no_year_0 : looked_up fourteen (replicate 8 nan) 0 ≡ refused 14 0
unfolding year_draws.looked_up no_row_drawn judged first_or bad_term too_few_lines past_end end_month
no_year_0 = refl

-- two lines are eight places: seven are too few, whatever the room and though no row is due
pub seven_places : drawn_with_years (record { term = 14; rate = nan; payment = nan; done = 14; balance = nan }) [] (replicate 7 nan) ≡ refused 3 0
unfolding year_draws.drawn_with_years judged first_or bad_term no_room too_few_lines past_end due end_month
seven_places = refl
