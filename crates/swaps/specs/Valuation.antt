-- What the functions over a swap, undated or dated, and a curve answer. Definitions only. Assumes nothing.
use Rattle.std.specs.Prelude.{Bool, List, map, Float}
use Rattle.std.specs.Float.{binary64}
use Rattle.std.specs.Float.Ieee.{add, sub}
use Rattle.numbers.specs.Literals.{basis_point}
use Rattle.refusals.specs.Outcome.{Outcome, judged}
use Rattle.swaps.specs.declared.AnySwap.{AnySwap}
use Rattle.swaps.specs.declared.valuation.SwapValuation.{SwapValuation}
use Rattle.swaps.specs.Periods.{Terms, terms_of, lines_of}
use Rattle.swaps.specs.Legs.{fixed_leg, floating_leg, net_value, par_rate_of, duration}

-- every zero rate a basis point higher, and what that changes the value by
unfoldable pub bumped : List Float → List Float
bumped zeros = map (λ (r : Float). add binary64 r basis_point) zeros

unfoldable pub point_value : Terms → List Float → List Float → Bool → Float
point_value t tenors zeros receives_fixed = sub binary64 (net_value t tenors (bumped zeros) receives_fixed) (net_value t tenors zeros receives_fixed)

unfoldable pub valuation : Terms → List Float → List Float → Bool → SwapValuation
valuation t tenors zeros receives_fixed = record {
  npv = net_value t tenors zeros receives_fixed;
  fixed_pv = fixed_leg t tenors zeros;
  floating_pv = floating_leg t tenors zeros;
  par_rate = par_rate_of t tenors zeros;
  dv01 = point_value t tenors zeros receives_fixed;
  duration = duration t tenors zeros;
}

module _ (s : AnySwap) (tenors zeros : List Float) where
  unfoldable pub fixed_leg_pv : Outcome Float
  fixed_leg_pv = judged (lines_of s tenors zeros) (fixed_leg (terms_of s) tenors zeros)

  unfoldable pub floating_leg_pv : Outcome Float
  floating_leg_pv = judged (lines_of s tenors zeros) (floating_leg (terms_of s) tenors zeros)

  unfoldable pub swap_npv : Bool → Outcome Float
  swap_npv receives_fixed = judged (lines_of s tenors zeros) (net_value (terms_of s) tenors zeros receives_fixed)

  unfoldable pub par_swap_rate : Outcome Float
  par_swap_rate = judged (lines_of s tenors zeros) (par_rate_of (terms_of s) tenors zeros)

  unfoldable pub swap_dv01 : Bool → Outcome Float
  swap_dv01 receives_fixed = judged (lines_of s tenors zeros) (point_value (terms_of s) tenors zeros receives_fixed)

  unfoldable pub swap_duration : Outcome Float
  swap_duration = judged (lines_of s tenors zeros) (duration (terms_of s) tenors zeros)

  unfoldable pub value_swap : Bool → Outcome SwapValuation
  value_swap receives_fixed = judged (lines_of s tenors zeros) (valuation (terms_of s) tenors zeros receives_fixed)
