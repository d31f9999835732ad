-- The two legs of a swap, its value, its par rate and its duration, over its terms and any list of periods. Definitions only. Assumes nothing.
use Rattle.std.specs.Prelude.{ℕ, zero, suc, Bool, cond, List, Float}
use Rattle.std.specs.Float.{binary64}
use Rattle.std.specs.Float.Ieee.{add, sub, mul, div, eq}
use Rattle.numbers.specs.Literals.{one}
use Rattle.numbers.specs.Clamps.{plus_zero}
use Rattle.numbers.specs.Sums.{added_up}
use Rattle.swaps.specs.Discount.{zero_rate_of, discount_of}
use Rattle.swaps.specs.Periods.{Periods, Terms}

module _ (t : Terms) (tenors zeros : List Float) where
  abbrev over : Periods
  over = t.periods

  -- the discount factor at the end of period k, from 1; at the start, 1; and at the end of all
  unfoldable pub factor_at : ℕ → Float
  factor_at zero = one
  factor_at (suc k) = discount_of tenors zeros (over.time k)

  unfoldable pub last_factor : Float
  last_factor = discount_of tenors zeros over.end

  -- "A period counting 0 days pays 0", and adds 0 to every sum
  unfoldable pub counted : ℕ → Float → Float
  counted k amount = cond (eq (over.fraction k) plus_zero) plus_zero amount

  -- a fixed payment
  unfoldable pub fixed_payment : ℕ → Float
  fixed_payment k = mul binary64 (mul binary64 t.notional t.rate) (over.fraction k)

  -- the fixed leg: each payment discounted, and the notional at the end
  unfoldable pub fixed_term : ℕ → Float
  fixed_term k = counted k (mul binary64 (fixed_payment k) (factor_at (suc k)))

  unfoldable pub fixed_leg : Float
  fixed_leg = add binary64 (added_up fixed_term over.count) (mul binary64 t.notional last_factor)

  -- the floating leg: each period's forward rate (df_(k-1)/df_k - 1)/fraction, paid and discounted, and the notional at the end
  unfoldable pub forward : ℕ → Float
  forward k = div binary64 (sub binary64 (div binary64 (factor_at k) (factor_at (suc k))) one) (over.fraction k)

  unfoldable pub floating_term : ℕ → Float
  floating_term k = counted k (mul binary64 (mul binary64 (mul binary64 t.notional (forward k)) (over.fraction k)) (factor_at (suc k)))

  unfoldable pub floating_leg : Float
  floating_leg = add binary64 (added_up floating_term over.count) (mul binary64 t.notional last_factor)

  -- fixed less floating for who receives fixed, else floating less fixed
  unfoldable pub net_value : Bool → Float
  net_value receives_fixed = cond receives_fixed (sub binary64 fixed_leg floating_leg) (sub binary64 floating_leg fixed_leg)

  -- (1 - df(T))/annuity
  unfoldable pub annuity_term : ℕ → Float
  annuity_term k = counted k (mul binary64 (factor_at (suc k)) (over.fraction k))

  unfoldable pub annuity : Float
  annuity = added_up annuity_term over.count

  unfoldable pub par_rate_of : Float
  par_rate_of = div binary64 (sub binary64 one last_factor) annuity

  -- the fixed leg's duration: the weighted sum over the sum, 0 where that is 0, over 1 + r/frequency
  unfoldable pub timed_term : ℕ → Float
  timed_term k = counted k (mul binary64 (mul binary64 (over.time k) (fixed_payment k)) (factor_at (suc k)))

  unfoldable pub weighted_sum : Float
  weighted_sum = add binary64 (added_up timed_term over.count) (mul binary64 (mul binary64 over.end t.notional) last_factor)

  unfoldable pub duration : Float
  duration =
      cond (eq fixed_leg plus_zero) plus_zero
      (div binary64 (div binary64 weighted_sum fixed_leg) (add binary64 one (div binary64 (zero_rate_of tenors zeros over.end) t.per_year)))
