-- Durations and convexity, at a yield and at a market price. Definitions only. Assumes nothing.
use Rattle.std.specs.Prelude.{ℕ, suc, Bool, cond, eqb, pos, Float}
use Rattle.std.specs.Float.{binary64}
use Rattle.std.specs.Float.Ieee.{neg, add, mul, div, lt, of_int}
use Rattle.numbers.specs.Literals.{one, half, epsilon}
use Rattle.numbers.specs.Clamps.{plus_zero}
use Rattle.numbers.specs.Sizes.{absolute}
use Rattle.numbers.specs.Sums.{added_up}
use Rattle.refusals.specs.Outcome.{Outcome, and_then, judged}
use Rattle.elementary.specs.WholePower.{whole_power}
use Rattle.bond.specs.declared.Bond.{Bond}
use Rattle.bond.specs.Bonds.{coupons_a_year, period_coupon, periods, bond_lines}
use Rattle.bond.specs.Price.{period_rate, price_of}
use Rattle.bond.specs.Yield.{yield_to_maturity}

-- what is paid in the period t, from 1, and what that is worth: cf/(1+r)^t
unfoldable pub flow_of : Bond → ℕ → Float
flow_of b t = cond (eqb t (periods b)) (add binary64 (period_coupon b) b.face) (period_coupon b)

unfoldable pub worth : Bond → Float → ℕ → Float
worth b r t = div binary64 (flow_of b t) (whole_power (add binary64 one r) t)

-- "Duration and convexity give 0 when |price| < 2^-52."
unfoldable pub worthless : Bond → Float → Bool
worthless b ytm = lt (absolute (price_of b ytm)) epsilon

-- ---- Macaulay: the sum of (t/m)·worth over the price
unfoldable pub weighted_time : Bond → Float → ℕ → Float
weighted_time b r t = mul binary64 (div binary64 (of_int binary64 (pos t)) (coupons_a_year b)) (worth b r t)

unfoldable pub macaulay_of : Bond → Float → Float
macaulay_of b ytm =
    cond (worthless b ytm) plus_zero
    (div binary64 (added_up (λ (i : ℕ). weighted_time b (period_rate b ytm) (suc i)) (periods b)) (price_of b ytm))

-- modified: Macaulay's over 1 + ytm/m
unfoldable pub modified_of : Bond → Float → Float
modified_of b ytm = div binary64 (macaulay_of b ytm) (add binary64 one (period_rate b ytm))

-- ---- convexity: the sum of t·(t+1)·worth over price·(1+r)^2·m·m
unfoldable pub weighted_square : Bond → Float → ℕ → Float
weighted_square b r t = mul binary64 (mul binary64 (of_int binary64 (pos t)) (add binary64 (of_int binary64 (pos t)) one)) (worth b r t)

unfoldable pub convexity_of : Bond → Float → Float
convexity_of b ytm =
    cond (worthless b ytm) plus_zero
    (div binary64 (added_up (λ (i : ℕ). weighted_square b (period_rate b ytm) (suc i)) (periods b))
    (mul binary64 (mul binary64 (mul binary64 (price_of b ytm) (whole_power (add binary64 one (period_rate b ytm)) 2)) (coupons_a_year b)) (coupons_a_year b)))

-- ---- -D·dy + 0.5·C·dy·dy
unfoldable pub change_of : Bond → Float → Float → Float
change_of b ytm dy =
    add binary64 (mul binary64 (neg (modified_of b ytm)) dy) (mul binary64 (mul binary64 (mul binary64 half (convexity_of b ytm)) dy) dy)

-- ---- at a yield
unfoldable pub macaulay_duration : Float → Bond → Outcome Float
macaulay_duration ytm b = judged (bond_lines b ytm) (macaulay_of b ytm)

unfoldable pub modified_duration : Float → Bond → Outcome Float
modified_duration ytm b = judged (bond_lines b ytm) (modified_of b ytm)

unfoldable pub convexity : Float → Bond → Outcome Float
convexity ytm b = judged (bond_lines b ytm) (convexity_of b ytm)

unfoldable pub price_change : Float → Float → Bond → Outcome Float
price_change ytm dy b = judged (bond_lines b ytm) (change_of b ytm dy)

-- ---- at a market price: "first needs the yield; where that is refused, the refusal is the answer"
unfoldable pub macaulay_at_price : Float → Bond → Outcome Float
macaulay_at_price market b = and_then (yield_to_maturity market b) (λ (ytm : Float). macaulay_duration ytm b)

unfoldable pub modified_at_price : Float → Bond → Outcome Float
modified_at_price market b = and_then (yield_to_maturity market b) (λ (ytm : Float). modified_duration ytm b)

unfoldable pub convexity_at_price : Float → Bond → Outcome Float
convexity_at_price market b = and_then (yield_to_maturity market b) (λ (ytm : Float). convexity ytm b)
