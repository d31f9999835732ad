-- The bootstrap: zero rates from par rates, one knot after the other, each solved so that its par swap is worth par. Definitions only. Assumes nothing.
use Rattle.std.specs.Prelude.{ℕ, zero, suc, Bool, cond, ◌||◌, List, [], ◌∷◌, ◌++◌, map, pos, length, take, Float}
use Rattle.std.specs.Float.{binary64}
use Rattle.std.specs.Float.Ieee.{add, sub, mul, lt, of_int}
use Rattle.numbers.specs.Literals.{one, five, minus_one, half, ten_to_minus16}
use Rattle.numbers.specs.Clamps.{plus_zero, lowered}
use Rattle.numbers.specs.Whole.{ceiling}
use Rattle.numbers.specs.Sums.{added_up}
use Rattle.refusals.specs.Outcome.{Outcome, Line, line, judged}
use Rattle.refusals.specs.Table.{unequal, bad_knot_count, bad_knots, bad_tenor}
use Rattle.elementary.specs.Ln.{ln}
use Rattle.curves.specs.Segments.{knot}
use Rattle.swaps.specs.Discount.{discount_of}

-- the annual dates of a swap of tenor T: 1, 2, .. lowered to T, and 0 before the first
unfoldable pub dates : Float → ℕ
dates T = ceiling T

unfoldable pub date : Float → ℕ → Float
date T zero = plus_zero
date T (suc k) = lowered (of_int binary64 (pos (suc k))) T

-- what a par swap at the rate c of the last knot misses par by: the sum of c·(t_k - t_(k-1))·df(t_k), plus df(T), less 1
unfoldable pub coupon_at : List Float → List Float → Float → Float → ℕ → Float
coupon_at tenors zeros T c k =
    mul binary64 (mul binary64 c (sub binary64 (date T (suc k)) (date T k))) (discount_of tenors zeros (date T (suc k)))

unfoldable pub par_error : List Float → List Float → Float → Float → Float
par_error tenors zeros T c = sub binary64 (add binary64 (added_up (coupon_at tenors zeros T c) (dates T)) (discount_of tenors zeros T)) one

-- ---- "It bisects [-1, 5], at most 200 halvings, stopping below 1e-16 of width"
abbrev pub middle : Float → Float → Float
middle lo hi = mul binary64 half (add binary64 lo hi)

module _ (error : Float → Float) where
  -- a halving goes up where the error in the middle is above 0
  unfoldable pub lower_end : Float → Float → Float
  lower_end lo hi = cond (lt plus_zero (error (middle lo hi))) (middle lo hi) lo

  unfoldable pub upper_end : Float → Float → Float
  upper_end lo hi = cond (lt plus_zero (error (middle lo hi))) hi (middle lo hi)

  unfoldable pub bisected : ℕ → Float → Float → Float
  bisected zero lo hi = middle lo hi
  bisected (suc k) lo hi =
      cond (lt (sub binary64 (upper_end lo hi) (lower_end lo hi)) ten_to_minus16) (middle (lower_end lo hi) (upper_end lo hi)) (bisected k (lower_end lo hi) (upper_end lo hi))

  -- "no sign change gives ln(1+c)"
  unfoldable pub no_change : Bool
  no_change = lt (error minus_one) plus_zero || lt plus_zero (error five)

  unfoldable pub solved_or : Float → Float
  solved_or other = cond no_change other (bisected 200 minus_one five)

-- the zero rate of the knot i, beside those before it
unfoldable pub next_zero : List Float → List Float → List Float → ℕ → Float
next_zero tenors pars zeros i =
    solved_or (λ (r : Float). par_error (take (suc i) tenors) (zeros ++ r ∷ []) (knot tenors i) (knot pars i)) (ln (add binary64 one (knot pars i)))

-- "filled one knot at a time"
unfoldable pub zeros_up_to : List Float → List Float → ℕ → List Float
zeros_up_to tenors pars zero = []
zeros_up_to tenors pars (suc i) = zeros_up_to tenors pars i ++ next_zero tenors pars (zeros_up_to tenors pars i) i ∷ []

abbrev pub either_of : List Bool → List Bool → List Bool
either_of [] bs = bs
either_of (a ∷ more) [] = a ∷ more
either_of (a ∷ more) (b ∷ bs) = (a || b) ∷ either_of more bs

abbrev pub par_lines : List Float → List Float → List Line
par_lines tenors pars =
    line 4 (unequal (length tenors) (length pars))
    ∷ line 5 (bad_knot_count (length tenors))
    ∷ record { number = 6; causes = either_of (bad_knots tenors pars) (map bad_tenor tenors) }
    ∷ []

unfoldable pub from_par_rates : List Float → List Float → Outcome (List Float)
from_par_rates tenors pars = judged (par_lines tenors pars) (zeros_up_to tenors pars (length tenors))
