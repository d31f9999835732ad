-- The price of a bond at a yield, and what is worked out from prices alone. Definitions only. Assumes nothing.
use Rattle.std.specs.Prelude.{cond, not, [], ◌∷◌, pos, Float}
use Rattle.std.specs.Float.{binary64}
use Rattle.std.specs.Float.Ieee.{neg, add, sub, mul, div, lt, of_int}
use Rattle.std.specs.Float.Ieee.Scale.{finite}
use Rattle.numbers.specs.Literals.{one, basis_point, tiny, epsilon}
use Rattle.numbers.specs.Clamps.{plus_zero}
use Rattle.numbers.specs.Sizes.{absolute}
use Rattle.refusals.specs.Outcome.{Outcome, line, judged}
use Rattle.refusals.specs.Table.{bad_number}
use Rattle.elementary.specs.WholePower.{negative_power}
use Rattle.elementary.specs.Power.{power}
use Rattle.bond.specs.declared.Bond.{Bond}
use Rattle.bond.specs.Bonds.{coupons_a_year, period_coupon, periods, bond_lines}

-- the rate of a period, ytm/m
unfoldable pub period_rate : Bond → Float → Float
period_rate b ytm = div binary64 ytm (coupons_a_year b)

-- "If |ytm/m| < 1e-12 the price is c·n + face"
unfoldable pub undiscounted : Bond → Float
undiscounted b = add binary64 (mul binary64 (period_coupon b) (of_int binary64 (pos (periods b)))) b.face

-- "at 1e-12 the power formula is used": c·(1 - d)/r + face·d, d = (1+r)^-n
unfoldable pub discount : Bond → Float → Float
discount b r = negative_power (add binary64 one r) (periods b)

unfoldable pub discounted : Bond → Float → Float → Float
discounted b r d = add binary64 (div binary64 (mul binary64 (period_coupon b) (sub binary64 one d)) r) (mul binary64 b.face d)

unfoldable pub price_of : Bond → Float → Float
price_of b ytm =
    cond (lt (absolute (period_rate b ytm)) tiny) (undiscounted b) (discounted b (period_rate b ytm) (discount b (period_rate b ytm)))

unfoldable pub price : Float → Bond → Outcome Float
price ytm b = judged (bond_lines b ytm) (price_of b ytm)

-- the price a basis point lower, less the price
unfoldable pub dv01 : Float → Bond → Outcome Float
dv01 ytm b = judged (bond_lines b ytm) (sub binary64 (price_of b (sub binary64 ytm basis_point)) (price_of b ytm))

-- the annual coupon over the market price; 0 where |price| < 2^-52
unfoldable pub current_yield : Float → Bond → Outcome Float
current_yield market b =
    judged (bond_lines b market) (cond (lt (absolute market) epsilon) plus_zero (div binary64 (mul binary64 b.face b.coupon) market))

-- a zero-coupon bond of face 1: it has no periods, so 7 is for a maturity that is not finite alone
unfoldable pub zero_coupon_price : Float → Float → Outcome Float
zero_coupon_price ytm maturity =
    judged (line 7 (not (finite maturity)) ∷ line 9 (bad_number ytm) ∷ []) (power (add binary64 one ytm) (neg maturity))
