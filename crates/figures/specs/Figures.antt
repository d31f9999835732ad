-- Document 01's 'Figures to hold it to', proved together as a single table: each is what the definitions compute. Assumes nothing.
use Rattle.std.specs.Prelude.{◌≡◌, refl, List, [], ◌∷◌, ◌++◌, ℕ, pos, Float}
use Rattle.std.specs.Float.{nan, binary64}
use Rattle.std.specs.Float.Ieee.{add, sub, mul, div, lt, le, eq, of_int, of_bits, to_bits}
use Rattle.numbers.specs.Sizes.{absolute}
use Rattle.numbers.specs.Whole.{nearest_whole}
use Rattle.refusals.specs.Outcome.{accepted, first_or, judged}
use Rattle.refusals.specs.Table.{bad_amount, bad_term, bad_number, bad_record, unequal, bad_knot_count, bad_knot, bad_knots_after, bad_knots, bad_time, too_many_periods}
use Rattle.elementary.specs.WholePower.{turns, whole_power, negative_power}
use Rattle.records.specs.declared.Terms.{Terms}
use Rattle.records.specs.declared.Row.{Row}
use Rattle.records.specs.Bytes.{value_of, whole_at, float_at}
use Rattle.records.specs.Kinds.{read_terms, terms_in}
use Rattle.mortgage.specs.declared.Loan.{Loan}
use Rattle.mortgage.specs.Payment.{monthly_rate, growth, equal_part, level_payment, payment, monthly_payment, loan_of, opened_with, opened}
use Rattle.mortgage.specs.Rates as any_rates
use Rattle.mortgage.specs.Month as any_month
use Rattle.mortgage.specs.Level.{end_month, due, row_of, next_of}
use Rattle.mortgage.specs.Month.{last}
use Rattle.mortgage.specs.RowRule.{interest_of, principal_of, payment_of, left_of}
use Rattle.steps.specs.Steps.{pieces, stepped, written}
use Rattle.bond.specs.declared.Bond.{Bond}
use Rattle.bond.specs.declared.Frequency.TheVariants.{Annual}
use Rattle.bond.specs.Bonds.{period_coupon, periods, bad_maturity}
use Rattle.bond.specs.Price.{period_rate, undiscounted, discount, discounted, price_of, price}
use Rattle.curves.specs.Segments.{segment_ending, flat_outside}
use Rattle.curves.specs.Formulas.{share, along_zeros}
use Rattle.swaps.specs.Discount.{zero_rate_of, rate_at}
use Rattle.pool.specs.declared.speed.Speed.TheVariants.{History}
use Rattle.pool.specs.Speed.{smm}
use Rattle.listing.specs.Digits.{hex_digits, decimal_digits, decimal}
use Rattle.listing.specs.Listing.{spaced, row_line, footer, loan_lines, listed as record_lines, saying, listing}

-- a whole number as a float, and any by its pattern
abbrev number : ℕ → Float
number n = of_int binary64 (pos n)

abbrev pattern : ℕ → Float
pattern = of_bits binary64

-- a column of a loan's next k rows
abbrev column : (Row → Float) → ℕ → Loan → List Float
column of k l = written next_of (λ (m : Loan). of (row_of m) ∷ []) k l

abbrev principals : ℕ → Loan → List Float
principals k l = column (λ (r : Row). r.principal) k l

abbrev payments : ℕ → Loan → List Float
payments k l = column (λ (r : Row). r.payment) k l

-- ---- the loans of the figures
abbrev terms : Float → Float → ℕ → Terms
terms P rate n = record { principal = P; rate = rate; term = n }

abbrev a_thousand : Float → ℕ → Terms
a_thousand rate n = terms (number 1000) rate n

-- ---- an annual bond of face 100 and coupon 0.5
abbrev annual_bond : ℕ → Bond
annual_bond years = record { face = number 100; coupon = pattern 0x3fe0_0000_0000_0000; maturity = number years; frequency = Annual }

-- ---- the listing that document 01 prints whole, and the record of it: principal 1200, rate 0, term 3
abbrev the_record : List ℕ
the_record = 1 ∷ 0 ∷ 0 ∷ 0 ∷ 0 ∷ 0 ∷ 192 ∷ 146 ∷ 64 ∷ 0 ∷ 0 ∷ 0 ∷ 0 ∷ 0 ∷ 0 ∷ 0 ∷ 0 ∷ 3 ∷ 0 ∷ 0 ∷ 0 ∷ []

-- month payment principal interest balance
abbrev line0 : List ℕ
line0 = 109 ∷ 111 ∷ 110 ∷ 116 ∷ 104 ∷ 32 ∷ 112 ∷ 97 ∷ 121 ∷ 109 ∷ 101 ∷ 110 ∷ 116 ∷ 32 ∷ 112 ∷ 114 ∷ 105 ∷ 110 ∷ 99 ∷ 105 ∷ 112 ∷ 97 ∷ 108 ∷ 32 ∷ 105 ∷ 110 ∷ 116 ∷ 101 ∷ 114 ∷ 101 ∷ 115 ∷ 116 ∷ 32 ∷ 98 ∷ 97 ∷ 108 ∷ 97 ∷ 110 ∷ 99 ∷ 101 ∷ 10 ∷ []

-- 1 4079000000000000 4079000000000000 0000000000000000 4089000000000000
abbrev line1 : List ℕ
line1 = 49 ∷ 32 ∷ 52 ∷ 48 ∷ 55 ∷ 57 ∷ 48 ∷ 48 ∷ 48 ∷ 48 ∷ 48 ∷ 48 ∷ 48 ∷ 48 ∷ 48 ∷ 48 ∷ 48 ∷ 48 ∷ 32 ∷ 52 ∷ 48 ∷ 55 ∷ 57 ∷ 48 ∷ 48 ∷ 48 ∷ 48 ∷ 48 ∷ 48 ∷ 48 ∷ 48 ∷ 48 ∷ 48 ∷ 48 ∷ 48 ∷ 32 ∷ 48 ∷ 48 ∷ 48 ∷ 48 ∷ 48 ∷ 48 ∷ 48 ∷ 48 ∷ 48 ∷ 48 ∷ 48 ∷ 48 ∷ 48 ∷ 48 ∷ 48 ∷ 48 ∷ 32 ∷ 52 ∷ 48 ∷ 56 ∷ 57 ∷ 48 ∷ 48 ∷ 48 ∷ 48 ∷ 48 ∷ 48 ∷ 48 ∷ 48 ∷ 48 ∷ 48 ∷ 48 ∷ 48 ∷ 10 ∷ []

-- 2 4079000000000000 4079000000000000 0000000000000000 4079000000000000
abbrev line2 : List ℕ
line2 = 50 ∷ 32 ∷ 52 ∷ 48 ∷ 55 ∷ 57 ∷ 48 ∷ 48 ∷ 48 ∷ 48 ∷ 48 ∷ 48 ∷ 48 ∷ 48 ∷ 48 ∷ 48 ∷ 48 ∷ 48 ∷ 32 ∷ 52 ∷ 48 ∷ 55 ∷ 57 ∷ 48 ∷ 48 ∷ 48 ∷ 48 ∷ 48 ∷ 48 ∷ 48 ∷ 48 ∷ 48 ∷ 48 ∷ 48 ∷ 48 ∷ 32 ∷ 48 ∷ 48 ∷ 48 ∷ 48 ∷ 48 ∷ 48 ∷ 48 ∷ 48 ∷ 48 ∷ 48 ∷ 48 ∷ 48 ∷ 48 ∷ 48 ∷ 48 ∷ 48 ∷ 32 ∷ 52 ∷ 48 ∷ 55 ∷ 57 ∷ 48 ∷ 48 ∷ 48 ∷ 48 ∷ 48 ∷ 48 ∷ 48 ∷ 48 ∷ 48 ∷ 48 ∷ 48 ∷ 48 ∷ 10 ∷ []

-- 3 4079000000000000 4079000000000000 0000000000000000 0000000000000000
abbrev line3 : List ℕ
line3 = 51 ∷ 32 ∷ 52 ∷ 48 ∷ 55 ∷ 57 ∷ 48 ∷ 48 ∷ 48 ∷ 48 ∷ 48 ∷ 48 ∷ 48 ∷ 48 ∷ 48 ∷ 48 ∷ 48 ∷ 48 ∷ 32 ∷ 52 ∷ 48 ∷ 55 ∷ 57 ∷ 48 ∷ 48 ∷ 48 ∷ 48 ∷ 48 ∷ 48 ∷ 48 ∷ 48 ∷ 48 ∷ 48 ∷ 48 ∷ 48 ∷ 32 ∷ 48 ∷ 48 ∷ 48 ∷ 48 ∷ 48 ∷ 48 ∷ 48 ∷ 48 ∷ 48 ∷ 48 ∷ 48 ∷ 48 ∷ 48 ∷ 48 ∷ 48 ∷ 48 ∷ 32 ∷ 48 ∷ 48 ∷ 48 ∷ 48 ∷ 48 ∷ 48 ∷ 48 ∷ 48 ∷ 48 ∷ 48 ∷ 48 ∷ 48 ∷ 48 ∷ 48 ∷ 48 ∷ 48 ∷ 10 ∷ []

-- rows 3 left 0
abbrev line4 : List ℕ
line4 = 114 ∷ 111 ∷ 119 ∷ 115 ∷ 32 ∷ 51 ∷ 32 ∷ 108 ∷ 101 ∷ 102 ∷ 116 ∷ 32 ∷ 48 ∷ 10 ∷ []

pub record Figures : Type 0 where
  -- the period count of 2.5 is 3, of 0.49999999999999994, NaN and -3 it is 0
  pub two_and_a_half : nearest_whole (pattern 0x4004_0000_0000_0000) ≡ 3
  pub nearly_a_half : nearest_whole (pattern 0x3fdf_ffff_ffff_ffff) ≡ 0
  pub no_number : nearest_whole nan ≡ 0
  pub below_zero : nearest_whole (pattern 0xc008_0000_0000_0000) ≡ 0
  -- principal 1200, rate 0, term 3, whole
  pub listed : listing the_record ≡ line0 ++ line1 ++ line2 ++ line3 ++ line4
  -- P 1000, rate 6, n 1: payment 1500
  pub one_month : monthly_payment (a_thousand (number 6) 1) ≡ accepted (number 1500)
  -- n 2: payment 900, principals 400, 600
  pub two_months : monthly_payment (a_thousand (number 6) 2) ≡ accepted (number 900)
  pub two_principals : principals 2 (loan_of (a_thousand (number 6) 2) (payment (a_thousand (number 6) 2))) ≡ number 400 ∷ number 600 ∷ []
  -- NaN rate, n 2: principals 0, 1000
  pub unknown_rate : principals 2 (loan_of (a_thousand nan 2) (payment (a_thousand nan 2))) ≡ number 0 ∷ number 1000 ∷ []
  -- given payment 100, rate 6, n 2: principals 0, 1000, last payment 1500
  pub too_small : principals 2 (loan_of (a_thousand (number 6) 2) (number 100)) ≡ number 0 ∷ number 1000 ∷ []
  pub last_payment : payments 2 (loan_of (a_thousand (number 6) 2) (number 100)) ≡ number 100 ∷ number 1500 ∷ []
  -- given 2000, rate 0, n 3: payments 2000, 2000, 0
  pub too_large : payments 3 (loan_of (a_thousand (number 0) 3) (number 2000)) ≡ number 2000 ∷ number 2000 ∷ number 0 ∷ []
  -- annual bond 100, coupon 0.5, 2 years: 62.5 at yield 1, 200 at 0; maturity 0, yield 0.5: 100
  pub bond_at_one : price (number 1) (annual_bond 2) ≡ accepted (pattern 0x404f_4000_0000_0000)
  pub bond_at_zero : price (number 0) (annual_bond 2) ≡ accepted (number 200)
  pub bond_at_maturity : price (pattern 0x3fe0_0000_0000_0000) (annual_bond 0) ≡ accepted (number 100)
  -- discount knots (1, 0.25), (3, 0.75) at 2: 0.5
  pub between_knots : rate_at (number 1 ∷ number 3 ∷ []) (pattern 0x3fd0_0000_0000_0000 ∷ pattern 0x3fe8_0000_0000_0000 ∷ []) (number 2) ≡ accepted (pattern 0x3fe0_0000_0000_0000)
  -- history [0.5]: month 0 gives 0.5, month 2 gives 0.0
  pub month_zero : smm History (pattern 0x3fe0_0000_0000_0000 ∷ []) 0 ≡ pattern 0x3fe0_0000_0000_0000
  pub past_the_end : smm History (pattern 0x3fe0_0000_0000_0000 ∷ []) 2 ≡ pattern 0

pub figures : Figures
unfolding nearest_whole absolute bad_amount bad_number unequal bad_knot_count bad_knot bad_knots_after bad_knots bad_time too_many_periods segment_ending flat_outside share along_zeros zero_rate_of rate_at smm bad_term bad_record first_or judged turns whole_power negative_power period_coupon periods bad_maturity period_rate undiscounted discount discounted price_of price value_of whole_at float_at read_terms terms_in monthly_rate growth level_payment payment equal_part monthly_payment loan_of opened_with opened any_month.end_month any_month.due last interest_of principal_of payment_of left_of any_month.row_of any_month.row_on any_month.paid any_month.principal any_month.remaining any_month.interest_alone any_rates.in_force any_month.next_of any_month.next_on stepped pieces hex_digits decimal_digits decimal spaced row_line footer loan_lines record_lines saying listing add sub mul div lt le eq of_int of_bits to_bits
figures = record {
  two_and_a_half = refl;
  nearly_a_half = refl;
  no_number = refl;
  below_zero = refl;
  listed = refl;
  one_month = refl;
  two_months = refl;
  two_principals = refl;
  unknown_rate = refl;
  too_small = refl;
  last_payment = refl;
  too_large = refl;
  bond_at_one = refl;
  bond_at_zero = refl;
  bond_at_maturity = refl;
  between_knots = refl;
  month_zero = refl;
  past_the_end = refl;
}
