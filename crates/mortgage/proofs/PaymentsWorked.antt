-- Payments by hand: where the factor is 1, at the last rate that makes it so and the next, and the smallest inputs of each way in which a payment is not finite. Assumes nothing.
use mathlib.Core.Path.{◌≡◌, refl}
use mathlib.Core.Bool.{false}
use mathlib.Core.List.{[], ◌∷◌, map}
use Prim.Native.Nat.{ℕ}
use lib.Ieee.{Float, nan, inf, binary64, add, sub, mul, div, lt, eq, of_int, of_bits}
use Rattle.elementary.specs.WholePower.{turns, whole_power}
use Rattle.refusals.specs.Outcome.{accepted, first_or, judged}
use Rattle.refusals.specs.Table.{bad_amount, bad_term}
use Rattle.records.specs.declared.Terms.{Terms}
use Rattle.steps.specs.Steps.{pieces, stepped}
use Rattle.mortgage.specs.Payment.{monthly_rate, growth, equal_part, level_payment, payment, monthly_payment, loan_of, opened_with, opened}
use Rattle.mortgage.specs.Rates.{in_force}
use Rattle.mortgage.specs.Month.{interest_alone, last, principal, paid, remaining, row_on, next_on, row_of, next_of}
use Rattle.mortgage.specs.RowRule.{interest_of, principal_of, payment_of}
use Rattle.mortgage.specs.Level.{rows}

abbrev number : ℕ → Float
number = of_bits binary64

abbrev lent : ℕ → ℕ → ℕ → Terms
lent p r n = record { principal = number p; rate = number r; term = n }

-- ---- where the factor is 1
-- 1000 at 1e-17 over 2 months: 500
abbrev vanishing : Terms
vanishing = lent 0x408f_4000_0000_0000 0x3c67_0ef5_4646_d497 2

pub vanishing_pays : monthly_payment vanishing ≡ accepted (number 0x407f_4000_0000_0000)
unfolding monthly_payment judged first_or bad_amount bad_term payment growth equal_part whole_power turns monthly_rate add mul div eq lt of_int of_bits
vanishing_pays = refl

-- and the loan is opened with it: two rows of 500, and some 8e-16 and 4e-16 of interest in them
pub vanishing_opens : opened vanishing ≡ accepted (loan_of vanishing (number 0x407f_4000_0000_0000))
unfolding opened opened_with judged first_or bad_amount bad_term payment growth equal_part whole_power turns monthly_rate add mul div eq lt of_int of_bits
vanishing_opens = refl

pub vanishing_rows : rows 2 (loan_of vanishing (number 0x407f_4000_0000_0000)) ≡ map number
    (0x3ff0_0000_0000_0000 ∷ 0x407f_4000_0000_0000 ∷ 0x407f_4000_0000_0000 ∷ 0x3cce_0624_b381_8f7a ∷ 0x407f_4000_0000_0000
    ∷ 0x4000_0000_0000_0000 ∷ 0x407f_4000_0000_0000 ∷ 0x407f_4000_0000_0000 ∷ 0x3cbe_0624_b381_8f7a ∷ 0 ∷ [])
unfolding pieces stepped row_of row_on next_of next_on in_force interest_alone last principal paid remaining principal_of payment_of interest_of loan_of monthly_rate add sub mul div lt of_int of_bits
vanishing_rows = refl

-- 3.5e-323, the smallest rate whose twelfth is not 0
pub smallest_pays : monthly_payment (lent 0x3ff0_0000_0000_0000 7 1) ≡ accepted (number 0x3ff0_0000_0000_0000)
unfolding monthly_payment judged first_or bad_amount bad_term payment growth equal_part whole_power turns monthly_rate add mul div eq lt of_int of_bits
smallest_pays = refl

pub smallest_rate : monthly_rate (number 7) ≡ number 1
unfolding monthly_rate div of_bits
smallest_rate = refl

pub below_smallest_rate : monthly_rate (number 6) ≡ number 0
unfolding monthly_rate div of_bits
below_smallest_rate = refl

-- r = 2^-53 is the largest rate a month at which 1000 over 2 months pays 500; at the next rate 1 + r is 1 + 2^-52, twice as far from 1, and the payment about half
pub last_vanishing : monthly_payment (lent 0x408f_4000_0000_0000 0x3cd8_0000_0000_0000 2) ≡ accepted (number 0x407f_4000_0000_0000)
unfolding monthly_payment judged first_or bad_amount bad_term payment growth equal_part whole_power turns monthly_rate add mul div eq lt of_int of_bits
last_vanishing = refl

pub first_felt : monthly_payment (lent 0x408f_4000_0000_0000 0x3cd8_0000_0000_0001 2) ≡ accepted (number 0x406f_4000_0000_0006)
unfolding monthly_payment judged first_or bad_amount bad_term payment growth level_payment whole_power turns monthly_rate add sub mul div eq lt of_int of_bits
first_felt = refl

-- a rate of -24: 1 + r is -1, so that an even term has a factor of 1, and an odd one pays -1000 a month for 1000
pub even_term : monthly_payment (lent 0x408f_4000_0000_0000 0xc038_0000_0000_0000 2) ≡ accepted (number 0x407f_4000_0000_0000)
unfolding monthly_payment judged first_or bad_amount bad_term payment growth equal_part whole_power turns monthly_rate add mul div eq lt of_int of_bits
even_term = refl

pub odd_term : monthly_payment (lent 0x408f_4000_0000_0000 0xc038_0000_0000_0000 3) ≡ accepted (number 0xc08f_4000_0000_0000)
unfolding monthly_payment judged first_or bad_amount bad_term payment growth level_payment whole_power turns monthly_rate add sub mul div eq lt of_int of_bits
odd_term = refl

-- ---- where the payment is not finite: each way's smallest input
-- f overflows: nothing lent, at 11.999999999999998 over 1,024 months
pub factor_overflows : payment (lent 0 0x4027_ffff_ffff_ffff 1024) ≡ nan
unfolding payment growth level_payment whole_power turns monthly_rate add sub mul div eq of_bits
factor_overflows = refl

-- P·r·f overflows, though f does not: 1.0000000000002278 at 11.999999999999995 over 1,024 months
pub product_overflows : payment (lent 0x3ff0_0000_0000_0402 0x4027_ffff_ffff_fffd 1024) ≡ inf false
unfolding payment growth level_payment whole_power turns monthly_rate add sub mul div eq of_bits
product_overflows = refl

-- the payment itself is above the largest number: 8.988465674311582e307, above 2^1023, at 11.999999999999995 over 1 month
pub payment_overflows : payment (lent 0x7fe0_0000_0000_0001 0x4027_ffff_ffff_fffd 1) ≡ inf false
unfolding payment growth level_payment whole_power turns monthly_rate add sub mul div eq of_bits
payment_overflows = refl

-- 1 + r rounds: 1.1984620899082105e308 at 3.996802888650563e-15 over 1 month
pub sum_rounds : payment (lent 0x7fe5_5555_5555_5555 0x3cf1_ffff_ffff_ffff 1) ≡ inf false
unfolding payment growth level_payment whole_power turns monthly_rate add sub mul div eq of_bits
sum_rounds = refl

-- a rate below -12: 3.991680619069442e292 at -23.999999999999996 over 2 months, whose factor is next to 1
pub rate_below : payment (lent 0x7cb0_0000_0000_0003 0xc037_ffff_ffff_ffff 2) ≡ inf false
unfolding payment growth level_payment whole_power turns monthly_rate add sub mul div eq of_bits
rate_below = refl
