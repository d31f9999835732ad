-- Figures of the kinds of a loan, by hand: an interest-only loan, a balloon and an adjustable loan, each opened and drawn in two portions with a refused draw between them; and refusal 16 at
-- each of its causes and places. Assumes nothing.
use mathlib.Core.Path.{◌≡◌, refl, ap, ◌∙◌, subst}
use mathlib.Core.Bool.{true, false}
use mathlib.Core.List.{List, [], ◌∷◌, ◌++◌, map}
use Prim.Native.Nat.{ℕ, ◌+◌, ◌-◌, ◌*◌}
use native.Mathlib.Omega.{arith}
use lib.ListN.{replicate}
use lib.Ieee.{Float, nan, inf, binary64, add, sub, mul, div, lt, eq, fits, of_int, of_bits}
use Rattle.numbers.specs.Clamps.{plus_zero}
use Rattle.elementary.specs.WholePower.{turns, whole_power}
use Rattle.refusals.specs.Outcome.{Outcome, refused, accepted, first_or, judged}
use Rattle.refusals.specs.Table.{bad_amount, bad_term, no_room, past_end, bad_period, bad_balloon, bad_initial, bad_cap, too_few_entries, bad_entry}
use Rattle.records.specs.declared.Terms.{Terms}
use Rattle.steps.specs.Steps.{pieces, stepped}
use Rattle.steps.specs.Calls as calls
use Rattle.steps.proofs.Portions.{written_sum}
use Rattle.mortgage.specs.declared.Loan.{Loan}
use Rattle.mortgage.specs.declared.kinds.Adjustment.{Adjustment}
use Rattle.mortgage.specs.Row.{width}
use Rattle.mortgage.specs.Kinds.{Way, interest_only, balloon, adjustable}
use Rattle.mortgage.specs.Payment.{monthly_rate, growth, equal_part, level_payment, payment, loan_of}
use Rattle.mortgage.specs.Openings.{kind_opened_with, kind_opened}
use Rattle.mortgage.specs.Rates.{next_rate, rate_of_year, adjusted_to, in_force}
use Rattle.mortgage.specs.Month.{interest_alone, last, principal, paid, remaining, row_on, next_on, end_month, due, row_of, next_of}
use Rattle.mortgage.specs.RowRule.{interest_of, principal_of, payment_of}
use Rattle.mortgage.specs.Rows.{after, rows, next_row}
use Rattle.mortgage.specs.Draws.{portion, drawn, filled}
use Rattle.mortgage.specs.Demand3.{wrote, filed, left, Repaid, Repays, OpensAndRepays}
use Rattle.mortgage.proofs.DrawCases.{row_places, Fits}
use Rattle.mortgage.proofs.Demand3.{demand3_of_any_kind, demand3_of_any_kind_worked_out}

abbrev number : ℕ → Float
number = of_bits binary64

abbrev twelve_hundred : Float
twelve_hundred = number 0x4092_c000_0000_0000

-- room for so many rows, and for none
abbrev room_for : ℕ → List Float
room_for n = replicate (n * width) nan

abbrev none : List Float
none = replicate (width - 1) nan

-- ---- interest-only: 1200 at rate 0.12, 1 in 100 a month, over 4 months, 2 of them of interest alone
abbrev alone_way : Way
alone_way = interest_only 2

abbrev alone_terms : Terms
alone_terms = record { principal = twelve_hundred; rate = number 0x3fbe_b851_eb85_1eb8; term = 4 }

-- the payment of 1200 over the 2 months that are left, 12·1.0201/0.0201, is 609.0149253731341
pub alone_works_out : kind_opened alone_way alone_terms ≡ accepted (loan_of alone_terms (number 0x4083_081e_9131_abef))
unfolding kind_opened kind_opened_with judged first_or bad_amount bad_term bad_period payment growth level_payment whole_power turns monthly_rate add sub mul div eq lt of_int of_bits
alone_works_out = refl

-- with a given one of 612: 12, 12, then 612 with 600 of principal, then the last 600 with 6 of interest
abbrev alone_loan : Loan
alone_loan = record { term = 4; rate = number 0x3fbe_b851_eb85_1eb8; payment = number 0x4083_2000_0000_0000; done = 0; balance = twelve_hundred }

pub alone_opens : kind_opened_with alone_way alone_terms alone_loan.payment ≡ accepted alone_loan
unfolding kind_opened_with judged first_or bad_amount bad_term bad_period loan_of lt of_bits
alone_opens = refl

-- one row; a room too small for one; three rows
abbrev alone_rooms : List (List Float)
alone_rooms = room_for 1 ∷ none ∷ room_for 3 ∷ []

pub alone_second_is_refused : drawn alone_way (left alone_way alone_loan (room_for 1 ∷ [])) none ≡ refused 3 0
unfolding calls.left drawn judged first_or bad_term no_room past_end bad_period portion due end_month stepped next_of next_on in_force
alone_second_is_refused = refl

pub alone_drawn_to_the_end : due alone_way (left alone_way alone_loan alone_rooms) ≡ 0
unfolding calls.left drawn judged first_or bad_term no_room past_end bad_period portion due end_month stepped next_of next_on in_force
alone_drawn_to_the_end = refl

pub alone_listing : filed alone_way alone_loan alone_rooms ≡ map number
    (0x3ff0_0000_0000_0000 ∷ 0x4028_0000_0000_0000 ∷ 0 ∷ 0x4028_0000_0000_0000 ∷ 0x4092_c000_0000_0000
    ∷ 0x4000_0000_0000_0000 ∷ 0x4028_0000_0000_0000 ∷ 0 ∷ 0x4028_0000_0000_0000 ∷ 0x4092_c000_0000_0000
    ∷ 0x4008_0000_0000_0000 ∷ 0x4083_2000_0000_0000 ∷ 0x4082_c000_0000_0000 ∷ 0x4028_0000_0000_0000 ∷ 0x4082_c000_0000_0000
    ∷ 0x4010_0000_0000_0000 ∷ 0x4082_f000_0000_0000 ∷ 0x4082_c000_0000_0000 ∷ 0x4018_0000_0000_0000 ∷ 0 ∷ [])
unfolding calls.filed wrote filled drawn judged first_or bad_term no_room past_end bad_period portion due end_month stepped pieces row_of next_of row_on next_on in_force interest_alone last principal paid remaining payment_of principal_of interest_of monthly_rate add sub mul div lt of_int of_bits
alone_listing = refl

alone_repays : Repays alone_way alone_terms alone_loan
unfolding fits lt of_bits judged first_or bad_period
alone_repays = subst (OpensAndRepays alone_way alone_terms) alone_opens (demand3_of_any_kind alone_way alone_terms alone_loan.payment tt tt tt (omega arith) (omega arith) refl)

pub alone_repaid_in_portions : Repaid twelve_hundred 4 (filed alone_way alone_loan alone_rooms)
alone_repaid_in_portions = (alone_repays alone_rooms alone_drawn_to_the_end).1

-- ---- balloon: 1200 at rate 0 over 12 months, the whole balance in month 3
abbrev balloon_way : Way
balloon_way = balloon 3

abbrev balloon_terms : Terms
balloon_terms = record { principal = twelve_hundred; rate = plus_zero; term = 12 }

-- the full term's payment, 100
abbrev balloon_loan : Loan
balloon_loan = record { term = 12; rate = plus_zero; payment = number 0x4059_0000_0000_0000; done = 0; balance = twelve_hundred }

pub balloon_opens : kind_opened balloon_way balloon_terms ≡ accepted balloon_loan
unfolding kind_opened kind_opened_with judged first_or bad_amount bad_term bad_balloon loan_of payment growth equal_part whole_power turns monthly_rate add mul div eq lt of_int of_bits
balloon_opens = refl

-- one row; a room too small for one; room for five, though two rows are due
abbrev balloon_rooms : List (List Float)
balloon_rooms = room_for 1 ∷ none ∷ room_for 5 ∷ []

pub balloon_second_is_refused : drawn balloon_way (left balloon_way balloon_loan (room_for 1 ∷ [])) none ≡ refused 3 0
unfolding calls.left drawn judged first_or bad_term no_room past_end bad_balloon portion due end_month stepped next_of next_on in_force
balloon_second_is_refused = refl

pub balloon_drawn_to_the_end : due balloon_way (left balloon_way balloon_loan balloon_rooms) ≡ 0
unfolding calls.left drawn judged first_or bad_term no_room past_end bad_balloon portion due end_month stepped next_of next_on in_force
balloon_drawn_to_the_end = refl

-- 100, 100, and then the 1000 that are left; no row after
pub balloon_listing : filed balloon_way balloon_loan balloon_rooms ≡ map number
    (0x3ff0_0000_0000_0000 ∷ 0x4059_0000_0000_0000 ∷ 0x4059_0000_0000_0000 ∷ 0 ∷ 0x4091_3000_0000_0000
    ∷ 0x4000_0000_0000_0000 ∷ 0x4059_0000_0000_0000 ∷ 0x4059_0000_0000_0000 ∷ 0 ∷ 0x408f_4000_0000_0000
    ∷ 0x4008_0000_0000_0000 ∷ 0x408f_4000_0000_0000 ∷ 0x408f_4000_0000_0000 ∷ 0 ∷ 0 ∷ [])
unfolding calls.filed wrote filled drawn judged first_or bad_term no_room past_end bad_balloon portion due end_month stepped pieces row_of next_of row_on next_on in_force interest_alone last principal paid remaining payment_of principal_of interest_of monthly_rate add sub mul div lt of_int of_bits
balloon_listing = refl

balloon_repays : Repays balloon_way balloon_terms balloon_loan
unfolding fits lt of_bits judged first_or bad_balloon
balloon_repays = subst (OpensAndRepays balloon_way balloon_terms) balloon_opens (demand3_of_any_kind_worked_out balloon_way balloon_terms tt tt tt (omega arith) (omega arith) refl)

pub balloon_repaid_in_portions : Repaid twelve_hundred 3 (filed balloon_way balloon_loan balloon_rooms)
balloon_repaid_in_portions = (balloon_repays balloon_rooms balloon_drawn_to_the_end).1

-- 4 months done are more than it has, though fewer than its term
pub balloon_past_its_end : drawn balloon_way (record { term = 12; rate = nan; payment = nan; done = 4; balance = nan }) [] ≡ refused 10 0
unfolding drawn judged first_or bad_term no_room past_end due end_month
balloon_past_its_end = refl

-- ---- adjustable: 204775 over 25 months from rate 0, a cap of 12, 1 a month, and a lifetime cap of 24; the record's own rate is a NaN, and is not read
abbrev caps : Adjustment
caps = record { initial = plus_zero; cap = number 0x4028_0000_0000_0000; lifetime = number 0x4038_0000_0000_0000 }

-- 20 for year 2, -5 for year 3
abbrev index : List Float
index = number 0x4034_0000_0000_0000 ∷ number 0xc014_0000_0000_0000 ∷ []

abbrev adjusted_way : Way
adjusted_way = adjustable caps index

-- year 1 runs at 0; 20 is above 0 + 12, and so 12; -5 is below 12 - 12, and so 0
pub rates : (rate_of_year caps index 0 ≡ plus_zero) × (rate_of_year caps index 1 ≡ number 0x4028_0000_0000_0000) × (rate_of_year caps index 2 ≡ plus_zero)
unfolding rate_of_year next_rate add sub lt of_bits
rates = (refl, refl, refl)

-- an index of 5 is within the cap; behind a rate of 20 an index of 30 is held to 32 and to 24, the most that the lifetime allows
pub rate_within : next_rate caps plus_zero (number 0x4014_0000_0000_0000) ≡ number 0x4014_0000_0000_0000
unfolding next_rate add sub lt of_bits
rate_within = refl

pub rate_of_a_lifetime : next_rate caps (number 0x4034_0000_0000_0000) (number 0x403e_0000_0000_0000) ≡ number 0x4038_0000_0000_0000
unfolding next_rate add sub lt of_bits
rate_of_a_lifetime = refl

abbrev adjusted_terms : Terms
adjusted_terms = record { principal = number 0x4108_ff38_0000_0000; rate = nan; term = 25 }

-- the loan with so many months done
abbrev standing : ℕ → ℕ → ℕ → ℕ → Loan
standing rate pay done balance = record { term = 25; rate = number rate; payment = number pay; done = done; balance = number balance }

-- 204775/25 is 8191
abbrev adjusted_loan : Loan
adjusted_loan = standing 0 0x40bf_ff00_0000_0000 0 0x4108_ff38_0000_0000

pub adjusted_opens : kind_opened adjusted_way adjusted_terms ≡ accepted adjusted_loan
unfolding kind_opened kind_opened_with judged first_or bad_amount bad_term bad_initial bad_cap too_few_entries bad_entry loan_of payment growth equal_part whole_power turns monthly_rate add mul div eq lt of_int of_bits
adjusted_opens = refl

-- after 11 months 14·8191 is left; month 12 leaves 13·8191 = 106483. At 1 a month over 13 months the payment is 13·8191·8192/8191 = 106496: month 13 pays 106483 of interest and 13
abbrev after11 : Loan
after11 = standing 0 0x40bf_ff00_0000_0000 11 0x40fb_ff20_0000_0000

abbrev after13 : Loan
after13 = standing 0x4028_0000_0000_0000 0x40fa_0000_0000_0000 13 0x40f9_fe60_0000_0000

-- each month of year 2 pays twice the principal of the one before: after 23 months 106483 - 13·2047 = 79872 is left, month 24 pays 13·2048 = 26624 and leaves 53248, which month 25 pays, at rate 0
abbrev after23 : Loan
after23 = standing 0x4028_0000_0000_0000 0x40fa_0000_0000_0000 23 0x40f3_8000_0000_0000

pub eleven_months : after adjusted_way 11 adjusted_loan ≡ after11
unfolding stepped next_of next_on in_force adjusted_to interest_alone last end_month principal remaining principal_of interest_of monthly_rate add sub mul div lt of_bits
eleven_months = refl

pub year_2_begins : after adjusted_way 2 after11 ≡ after13
unfolding stepped next_of next_on in_force adjusted_to next_rate payment growth level_payment whole_power turns interest_alone last end_month principal remaining principal_of interest_of monthly_rate add sub mul div eq lt of_int of_bits
year_2_begins = refl

pub ten_months_more : after adjusted_way 10 after13 ≡ after23
unfolding stepped next_of next_on in_force adjusted_to interest_alone last end_month principal remaining principal_of interest_of monthly_rate add sub mul div lt of_bits
ten_months_more = refl

-- rows 12 and 13
abbrev rows12and13 : List Float
rows12and13 = map number
    (0x4028_0000_0000_0000 ∷ 0x40bf_ff00_0000_0000 ∷ 0x40bf_ff00_0000_0000 ∷ 0 ∷ 0x40f9_ff30_0000_0000
    ∷ 0x402a_0000_0000_0000 ∷ 0x40fa_0000_0000_0000 ∷ 0x402a_0000_0000_0000 ∷ 0x40f9_ff30_0000_0000 ∷ 0x40f9_fe60_0000_0000 ∷ [])

pub year_2_shown : rows adjusted_way 2 after11 ≡ rows12and13
unfolding pieces stepped row_of row_on next_of next_on in_force adjusted_to next_rate payment growth level_payment whole_power turns interest_alone last end_month principal paid remaining payment_of principal_of interest_of monthly_rate add sub mul div eq lt of_int of_bits
year_2_shown = refl

-- rows 24 and 25
abbrev rows24and25 : List Float
rows24and25 = map number
    (0x4038_0000_0000_0000 ∷ 0x40fa_0000_0000_0000 ∷ 0x40da_0000_0000_0000 ∷ 0x40f3_8000_0000_0000 ∷ 0x40ea_0000_0000_0000
    ∷ 0x4039_0000_0000_0000 ∷ 0x40ea_0000_0000_0000 ∷ 0x40ea_0000_0000_0000 ∷ 0 ∷ 0 ∷ [])

pub year_3_shown : rows adjusted_way 2 after23 ≡ rows24and25
unfolding pieces stepped row_of row_on next_of next_on in_force adjusted_to next_rate payment growth level_payment whole_power turns interest_alone last end_month principal paid remaining payment_of principal_of interest_of monthly_rate add sub mul div eq lt of_int of_bits
year_3_shown = refl

-- 13 rows, the first of year 2 among them; a room too small for one; the other twelve
abbrev adjusted_rooms : List (List Float)
adjusted_rooms = room_for 13 ∷ none ∷ room_for 12 ∷ []

pub adjusted_second_is_refused : drawn adjusted_way (left adjusted_way adjusted_loan (room_for 13 ∷ [])) none ≡ refused 3 0
unfolding calls.left drawn judged first_or bad_term no_room past_end bad_initial bad_cap too_few_entries bad_entry portion due end_month stepped next_of next_on in_force adjusted_to lt of_bits
adjusted_second_is_refused = refl

pub adjusted_drawn_to_the_end : due adjusted_way (left adjusted_way adjusted_loan adjusted_rooms) ≡ 0
unfolding calls.left drawn judged first_or bad_term no_room past_end bad_initial bad_cap too_few_entries bad_entry portion due end_month stepped next_of next_on in_force adjusted_to lt of_bits
adjusted_drawn_to_the_end = refl

adjusted_repays : Repays adjusted_way adjusted_terms adjusted_loan
unfolding fits lt of_bits judged first_or bad_initial bad_cap too_few_entries bad_entry
adjusted_repays = subst (OpensAndRepays adjusted_way adjusted_terms) adjusted_opens (demand3_of_any_kind_worked_out adjusted_way adjusted_terms tt tt tt (omega arith) (omega arith) refl)

pub adjusted_repaid_in_portions : Repaid (number 0x4108_ff38_0000_0000) 25 (filed adjusted_way adjusted_loan adjusted_rooms)
adjusted_repaid_in_portions = (adjusted_repays adjusted_rooms adjusted_drawn_to_the_end).1

-- so many rows and then so many more
in_two : (a b : ℕ) (l m : Loan) → after adjusted_way a l ≡ m → rows adjusted_way (b + a) l ≡ rows adjusted_way a l ++ rows adjusted_way b m
in_two a b l m e = written_sum (next_of adjusted_way) (row_places adjusted_way) a b l ∙ ap (λ (x : Loan). rows adjusted_way a l ++ rows adjusted_way b x) e

-- what the two portions filed
pub adjusted_listing : filed adjusted_way adjusted_loan adjusted_rooms ≡ rows adjusted_way 11 adjusted_loan ++ (rows12and13 ++ (rows adjusted_way 10 after13 ++ rows24and25))
adjusted_listing =
    (adjusted_repays adjusted_rooms adjusted_drawn_to_the_end).0
    ∙ in_two 11 14 adjusted_loan after11 eleven_months
    ∙ ap (λ (rest : List Float). rows adjusted_way 11 adjusted_loan ++ rest) (in_two 2 12 after11 after13 year_2_begins)
    ∙ ap (λ (rest : List Float). rows adjusted_way 11 adjusted_loan ++ (rows adjusted_way 2 after11 ++ rest)) (in_two 10 2 after13 after23 ten_months_more)
    ∙ ap (λ (begun : List Float). rows adjusted_way 11 adjusted_loan ++ (begun ++ (rows adjusted_way 10 after13 ++ rows adjusted_way 2 after23))) year_2_shown
    ∙ ap (λ (ended : List Float). rows adjusted_way 11 adjusted_loan ++ (rows12and13 ++ (rows adjusted_way 10 after13 ++ ended))) year_3_shown

-- ---- refusal 16, of 1200 over 25 months
abbrev asked : Way → Outcome Loan
asked way = kind_opened_with way (record { principal = twelve_hundred; rate = nan; term = 25 }) nan

-- a period of 0, of the term, and beyond it; the last that may be
pub periods : (asked (interest_only 0) ≡ refused 16 0) × (asked (interest_only 25) ≡ refused 16 0) × (asked (interest_only 26) ≡ refused 16 0)
unfolding kind_opened_with judged first_or bad_amount bad_term bad_period lt of_bits
periods = (refl, refl, refl)

pub last_period : Fits (interest_only 24) 25
unfolding judged first_or bad_period
last_period = refl

-- a balloon month of 0, and beyond the term; the term itself may be
pub balloons : (asked (balloon 0) ≡ refused 16 0) × (asked (balloon 26) ≡ refused 16 0)
unfolding kind_opened_with judged first_or bad_amount bad_term bad_balloon lt of_bits
balloons = (refl, refl)

pub last_balloon : Fits (balloon 25) 25
unfolding judged first_or bad_balloon
last_balloon = refl

-- an adjustable loan with these rates, which reads two entries of this list
abbrev asked_with : Float → Float → Float → List Float → Outcome Loan
asked_with initial cap lifetime list = asked (adjustable (record { initial = initial; cap = cap; lifetime = lifetime }) list)

-- an initial rate that is not finite
pub initial_rates : (asked_with nan plus_zero plus_zero index ≡ refused 16 0) × (asked_with (inf true) plus_zero plus_zero index ≡ refused 16 0)
unfolding kind_opened_with judged first_or bad_amount bad_term bad_initial bad_cap too_few_entries bad_entry lt of_bits
initial_rates = (refl, refl)

-- either cap not finite, or below zero
pub caps_of_a_year : (asked_with plus_zero nan plus_zero index ≡ refused 16 0) × (asked_with plus_zero (inf false) plus_zero index ≡ refused 16 0) × (asked_with plus_zero (number 0xbff0_0000_0000_0000) plus_zero index ≡ refused 16 0)
unfolding kind_opened_with judged first_or bad_amount bad_term bad_initial bad_cap too_few_entries bad_entry lt of_bits
caps_of_a_year = (refl, refl, refl)

pub caps_of_a_lifetime : (asked_with plus_zero plus_zero nan index ≡ refused 16 0) × (asked_with plus_zero plus_zero (inf false) index ≡ refused 16 0) × (asked_with plus_zero plus_zero (number 0xbff0_0000_0000_0000) index ≡ refused 16 0)
unfolding kind_opened_with judged first_or bad_amount bad_term bad_initial bad_cap too_few_entries bad_entry lt of_bits
caps_of_a_lifetime = (refl, refl, refl)

-- no entry, and one: the list is too short
pub short_lists : (asked_with plus_zero plus_zero plus_zero [] ≡ refused 16 0) × (asked_with plus_zero plus_zero plus_zero (plus_zero ∷ []) ≡ refused 16 0)
unfolding kind_opened_with judged first_or bad_amount bad_term bad_initial bad_cap too_few_entries bad_entry lt of_bits
short_lists = (refl, refl)

-- the second entry not finite, both, and the second with a cap that is not: a single cause counts before a bad entry; a third is not read
pub entries : (asked_with plus_zero plus_zero plus_zero (plus_zero ∷ inf true ∷ []) ≡ refused 16 1) × (asked_with plus_zero plus_zero plus_zero (nan ∷ nan ∷ []) ≡ refused 16 0)
    × (asked_with plus_zero nan plus_zero (plus_zero ∷ nan ∷ []) ≡ refused 16 0)
unfolding kind_opened_with judged first_or bad_amount bad_term bad_initial bad_cap too_few_entries bad_entry lt of_bits
entries = (refl, refl, refl)

pub third_entry_not_read : Fits (adjustable caps (plus_zero ∷ plus_zero ∷ nan ∷ [])) 25
unfolding judged first_or bad_initial bad_cap too_few_entries bad_entry lt of_bits
third_entry_not_read = refl

-- it is asked at every draw and of a row alone, of a finished loan too; 1, 2, 3 and 10 go before it
abbrev done : ℕ → Loan
done n = record { term = 25; rate = nan; payment = nan; done = n; balance = nan }

pub at_a_draw : (drawn (adjustable caps (plus_zero ∷ nan ∷ [])) (done 25) [] ≡ refused 16 1) × (next_row (interest_only 25) (done 25) ≡ refused 16 0)
unfolding drawn next_row judged first_or bad_term no_room past_end bad_period bad_initial bad_cap too_few_entries bad_entry due end_month lt of_bits
at_a_draw = (refl, refl)

pub lower_lines_first : (drawn (interest_only 25) (done 24) [] ≡ refused 3 0) × (drawn (balloon 0) (done 1) [] ≡ refused 10 0) × (kind_opened_with (balloon 0) (record { principal = nan; rate = nan; term = 0 }) nan ≡ refused 1 0)
unfolding kind_opened_with drawn judged first_or bad_amount bad_term no_room past_end bad_period bad_balloon due end_month lt of_bits
lower_lines_first = (refl, refl, refl)
