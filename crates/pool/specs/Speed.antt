-- Prepayment speeds, and the share of a balance that they prepay in a month. Definitions only. Assumes nothing.
use Rattle.std.specs.Prelude.{ℕ, ◌-◌, cond, List, leb, pos, get_or, Float}
use Rattle.std.specs.Float.{binary64}
use Rattle.std.specs.Float.Ieee.{sub, mul, div, of_int}
use Rattle.numbers.specs.Literals.{one, twelve, thirty, six_percent}
use Rattle.numbers.specs.Clamps.{plus_zero}
use Rattle.elementary.specs.Power.{power}
use Rattle.pool.specs.declared.speed.Speed.{Speed}
use Rattle.pool.specs.declared.speed.Speed.TheVariants.{Cpr, Psa, History}

-- "SMM = 1 - (1-cpr)^(1/12)"
unfoldable pub monthly : Float → Float
monthly cpr = sub binary64 one (power (sub binary64 one cpr) (div binary64 one twelve))

-- "PSA cpr = 0.06·factor·(month/30) up to month 30, then 0.06·factor"
unfoldable pub psa_rate : Float → ℕ → Float
psa_rate factor month =
    cond (leb month 30) (mul binary64 (mul binary64 six_percent factor) (div binary64 (of_int binary64 (pos month)) thirty)) (mul binary64 six_percent factor)

-- "History: entry month-1, month 0 reads the first, past the end is 0.0."
unfoldable pub smm : Speed → List Float → ℕ → Float
smm (Cpr rate) history month = monthly rate
smm (Psa factor) history month = monthly (psa_rate factor month)
smm History history month = get_or history (month - 1) plus_zero
