-- Present values over a curve and a spread, the spread that a market price implies, duration and convexity. Definitions only. Assumes nothing.
use Rattle.std.specs.Prelude.{ℕ, zero, suc, Bool, false, cond, ◌||◌, List, [], ◌∷◌, map, length, Float}
use Rattle.std.specs.Float.{binary64}
use Rattle.std.specs.Float.Ieee.{neg, add, sub, mul, div, lt, le}
use Rattle.numbers.specs.Literals.{two, two_thousand, minus_five_hundred, ten_to_minus8, tiny}
use Rattle.numbers.specs.Clamps.{plus_zero}
use Rattle.numbers.specs.Sizes.{absolute}
use Rattle.numbers.specs.Sums.{added_up}
use Rattle.refusals.specs.Outcome.{Outcome, refused, accepted, Line, line, alone, judged}
use Rattle.refusals.specs.Table.{unequal, bad_knot_count, bad_knots, bad_time, too_many_flows, bad_number}
use Rattle.elementary.specs.Exp.{exp}
use Rattle.curves.specs.Segments.{knot}
use Rattle.spread_analytics.specs.declared.spread.Sensitivity.{Sensitivity}
use Rattle.std.specs.declared.result.Result.{Result}
use Rattle.std.specs.declared.result.Result.TheVariants.{Ok, Err}
use Rattle.refusals.specs.declared.Refusal.{Refusal}
use Rattle.spread_analytics.specs.declared.spread.Spread.{Spread}
use Rattle.spread_analytics.specs.declared.spread.Spread.TheVariants.{Found as Within, NoSignChange}
use Rattle.spread_analytics.specs.Units.{as_decimal}
use Rattle.spread_analytics.specs.Curves.{rate_of}
use Rattle.refusals.specs.Answers.{number}

-- a spread in points, found between the ends or at one of them
pub data Found : Type 0 where
  found : Float → Found
  at_end : Float → Found

-- half way between two ends
abbrev pub middle : Float → Float → Float
middle lo hi = div binary64 (add binary64 lo hi) two

-- ---- the refusals: a list's length is a single cause, its items stand at their index
abbrev pub spread_lines : List Float → List Float → List Float → List Float → Bool → List Line
spread_lines times amounts tenors rates bad_price =
    line 4 (unequal (length times) (length amounts) || unequal (length tenors) (length rates))
    ∷ line 5 (bad_knot_count (length tenors))
    ∷ record { number = 6; causes = bad_knots tenors rates }
    ∷ record { number = 7; causes = alone (too_many_flows (length times)) (map bad_time times) }
    ∷ record { number = 9; causes = alone bad_price (map bad_number amounts) }
    ∷ []

module _ (times amounts tenors rates : List Float) where
  -- exp(-(rate + s)·time), s a decimal
  unfoldable pub factor_of : Float → ℕ → Float
  factor_of s i = exp (mul binary64 (neg (add binary64 (rate_of tenors rates (knot times i)) s)) (knot times i))

  -- "the sum of amount·exp(-(rate + s/10000)·time), left to right"; points is s
  unfoldable pub worth_of : Float → Float
  worth_of points = added_up (λ (i : ℕ). mul binary64 (knot amounts i) (factor_of (as_decimal points) i)) (length times)

  unfoldable pub pv_cash_flows : Float → Outcome Float
  pv_cash_flows points = judged (spread_lines times amounts tenors rates false) (worth_of points)

  -- ---- the spread: "searches [-500, 2000] points, 100 halvings", stopping below 1e-8 of width
  unfoldable pub error_at : Float → Float → Float
  error_at market points = sub binary64 (worth_of points) market

  -- the errors at the lower end and in the middle are on two sides, or one is 0
  unfoldable pub crosses : Float → Float → Float → Bool
  crosses market lo hi = le (mul binary64 (error_at market lo) (error_at market (middle lo hi))) plus_zero

  unfoldable pub spread_within : Float → ℕ → Float → Float → Float
  spread_within market zero lo hi = middle lo hi
  spread_within market (suc k) lo hi =
      cond (lt (absolute (sub binary64 hi lo)) ten_to_minus8) (middle lo hi)
      (cond (crosses market lo hi) (spread_within market k lo (middle lo hi)) (spread_within market k (middle lo hi) hi))

  -- no sign change: the product of the end errors is above 0
  unfoldable pub no_change : Float → Bool
  no_change market = lt plus_zero (mul binary64 (error_at market minus_five_hundred) (error_at market two_thousand))

  unfoldable pub nearer_end : Float → Float
  nearer_end market = cond (lt (absolute (error_at market minus_five_hundred)) (absolute (error_at market two_thousand))) minus_five_hundred two_thousand

  -- "with no sign change it gives the end nearer zero and says so"
  unfoldable pub spread_of : Float → Found
  spread_of market = cond (no_change market) (at_end (nearer_end market)) (found (spread_within market 100 minus_five_hundred two_thousand))

  unfoldable pub z_spread : Float → Outcome Found
  z_spread market = judged (spread_lines times amounts tenors rates (bad_number market)) (spread_of market)

  -- ---- duration and convexity: 0 and 0 where |pv| < 1e-12
  unfoldable pub duration_of : Float → Float
  duration_of points =
      div binary64 (added_up (λ (i : ℕ). mul binary64 (mul binary64 (knot times i) (knot amounts i)) (factor_of (as_decimal points) i)) (length times)) (worth_of points)

  unfoldable pub convexity_of : Float → Float
  convexity_of points =
      div binary64
      (added_up (λ (i : ℕ). mul binary64 (mul binary64 (mul binary64 (knot times i) (knot times i)) (knot amounts i)) (factor_of (as_decimal points) i)) (length times))
      (worth_of points)

  unfoldable pub sensitivity_of : Float → Sensitivity
  sensitivity_of points =
      cond (lt (absolute (worth_of points)) tiny) (record { duration = plus_zero; convexity = plus_zero })
      (record { duration = duration_of points; convexity = convexity_of points })

  unfoldable pub duration_convexity : Float → Outcome Sensitivity
  duration_convexity points = judged (spread_lines times amounts tenors rates false) (sensitivity_of points)

abbrev pub spread_outcome : Result Spread Refusal → Outcome Found
spread_outcome (Err r) = refused (number r.cause) r.place
spread_outcome (Ok (Within s)) = accepted (found s.0)
spread_outcome (Ok (NoSignChange s)) = accepted (at_end s.0)
