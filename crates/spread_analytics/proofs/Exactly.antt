-- Every entry point refuses by the table's rule: number k at place p is given exactly when that is the lowest line with a cause and its first place. Assumes nothing.
use mathlib.Core.Path.{◌≡◌}
use mathlib.Core.Logic.{◌↔◌}
use mathlib.Core.Bool.{false, ◌||◌}
use mathlib.Core.List.{List, [], ◌∷◌, ◌++◌}
use Prim.Native.Nat.{ℕ, ◌≤◌, min}
use lib.ListN.{length}
use lib.Ieee.{Float}
use Rattle.numbers.specs.Whole.{largest}
use Rattle.refusals.specs.Outcome.{refused, line, Lowest, ExactlyWhen, above}
use Rattle.refusals.specs.Table.{bad_time, bad_number}
use Rattle.refusals.proofs.Judging.{exactly}
use Rattle.curves.specs.Curve.{curve_lines, asked_lines}
use Rattle.curves.specs.Lists.{each_lines, each_outcome}
use Rattle.curves.proofs.Exactly as of_a_curve
use Rattle.spread_analytics.specs.Curves.{rate_at, discount_factor, forward_rate}
use Rattle.spread_analytics.specs.Flows.{flow_lines, bond_cash_flows}
use Rattle.spread_analytics.specs.Spread.{spread_lines, pv_cash_flows, z_spread, duration_convexity}

-- ---- the curves
module _ (tenors rates : List Float) where
  pub rate_refused_exactly : (t : Float) → ExactlyWhen (asked_lines tenors rates t) (rate_at tenors rates t)
  unfolding rate_at above
  rate_refused_exactly t = exactly _ (asked_lines tenors rates t) tt

  pub discount_refused_exactly : (t : Float) → ExactlyWhen (asked_lines tenors rates t) (discount_factor tenors rates t)
  unfolding discount_factor above
  discount_refused_exactly t = exactly _ (asked_lines tenors rates t) tt

  pub forward_refused_exactly : (t1 t2 : Float) → ExactlyWhen (curve_lines tenors rates ++ line 7 (bad_time t1 || bad_time t2) ∷ []) (forward_rate tenors rates t1 t2)
  unfolding forward_rate above
  forward_refused_exactly t1 t2 = exactly _ (curve_lines tenors rates ++ line 7 (bad_time t1 || bad_time t2) ∷ []) tt

  -- a list of times: `rate_at_each` and `discount_factor_at_each` give the one outcome of every curve
  module _ (asked : List Float) where
    pub each_refused_exactly : length asked ≤ 4294967295 → ExactlyWhen (each_lines tenors rates asked) (each_outcome tenors rates asked)
    each_refused_exactly = of_a_curve.each_refused_exactly tenors rates asked

    pub each_refused_at : (k p : ℕ) → (each_outcome tenors rates asked ≡ refused k p) ↔ ((q : ℕ) × Lowest (each_lines tenors rates asked) k q × (p ≡ min q largest))
    each_refused_at = of_a_curve.each_refused_at tenors rates asked

-- ---- a bond's cash flows
pub flows_refused_exactly : (face coupon tenor : Float) (frequency : ℕ) (times amounts : List Float)
    → ExactlyWhen (flow_lines face coupon tenor frequency (length times) (length amounts)) (bond_cash_flows face coupon tenor frequency times amounts)
unfolding bond_cash_flows above
flows_refused_exactly face coupon tenor frequency times amounts = exactly _ (flow_lines face coupon tenor frequency (length times) (length amounts)) tt

-- ---- flows over a curve
module _ (times amounts tenors rates : List Float) where
  pub worth_refused_exactly : (points : Float) → ExactlyWhen (spread_lines times amounts tenors rates false) (pv_cash_flows times amounts tenors rates points)
  unfolding pv_cash_flows above
  worth_refused_exactly points = exactly _ (spread_lines times amounts tenors rates false) tt

  pub spread_refused_exactly : (market : Float) → ExactlyWhen (spread_lines times amounts tenors rates (bad_number market)) (z_spread times amounts tenors rates market)
  unfolding z_spread above
  spread_refused_exactly market = exactly _ (spread_lines times amounts tenors rates (bad_number market)) tt

  pub sensitivity_refused_exactly : (points : Float) → ExactlyWhen (spread_lines times amounts tenors rates false) (duration_convexity times amounts tenors rates points)
  unfolding duration_convexity above
  sensitivity_refused_exactly points = exactly _ (spread_lines times amounts tenors rates false) tt
