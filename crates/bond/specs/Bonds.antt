-- A bond's coupon frequency, coupon and periods, and what every function over a bond asks of it first. Definitions only. Assumes nothing.
use Rattle.std.specs.Prelude.{ℕ, Bool, ◌||◌, List, [], ◌∷◌, pos, Float}
use Rattle.std.specs.Float.{binary64}
use Rattle.std.specs.Float.Ieee.{mul, div, of_int}
use Rattle.numbers.specs.Whole.{nearest_whole}
use Rattle.refusals.specs.Outcome.{Line, line}
use Rattle.refusals.specs.Table.{bad_amount, bad_time, too_many_periods, bad_number}
use Rattle.bond.specs.declared.Bond.{Bond}
use Rattle.bond.specs.declared.Frequency.{Frequency}
use Rattle.bond.specs.declared.Frequency.TheVariants.{Annual, SemiAnnual, Quarterly, Monthly}

-- coupons a year
abbrev pub periods_per_year : Frequency → ℕ
periods_per_year Annual = 1
periods_per_year SemiAnnual = 2
periods_per_year Quarterly = 4
periods_per_year Monthly = 12

-- "m", as a float
abbrev pub coupons_a_year : Bond → Float
coupons_a_year b = of_int binary64 (pos (periods_per_year b.frequency))

-- "c": the coupon of a period, face·rate/m left to right
unfoldable pub period_coupon : Bond → Float
period_coupon b = div binary64 (mul binary64 b.face b.coupon) (coupons_a_year b)

-- "Periods: maturity·m to the nearest whole number, halves away from zero; NaN and anything negative give 0."
unfoldable pub periods : Bond → ℕ
periods b = nearest_whole (mul binary64 b.maturity (coupons_a_year b))

-- 7: "a maturity .. is not finite, or gives more than 1,200 periods"
unfoldable pub bad_maturity : Bond → Bool
bad_maturity b = bad_time b.maturity || too_many_periods (periods b)

-- the lines that a face, a maturity and a coupon meet, with one number beside them: a yield or a market price
abbrev pub number_lines : Float → Bool → Float → Float → List Line
number_lines face bad_term coupon x = line 1 (bad_amount face) ∷ line 7 bad_term ∷ line 9 (bad_number x || bad_number coupon) ∷ []

abbrev pub bond_lines : Bond → Float → List Line
bond_lines b x = number_lines b.face (bad_maturity b) b.coupon x
