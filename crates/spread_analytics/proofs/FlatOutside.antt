-- Outside its knots a rate curve is flat: at and before the first knot it gives the first rate, at and after the last the last. Assumes nothing.
use mathlib.Core.Path.{◌≡◌, refl, sym}
use mathlib.Core.Bool.{true, false}
use mathlib.Core.List.{List}
use lib.Ieee.{Float, le}
use Rattle.curves.specs.Segments.{knot, last_of}
use Rattle.curves.proofs.Flat.{before_first, past_last}
use Rattle.spread_analytics.specs.Curves.{rate_of}

module _ (tenors rates : List Float) (t : Float) where
  pub first_rate_before : le t (knot tenors 0) ≡ true → rate_of tenors rates t ≡ knot rates 0
  unfolding rate_of
  first_rate_before h = sym (before_first tenors rates t _ (knot tenors 0) refl (knot rates 0) refl h)

  pub last_rate_after : le t (knot tenors 0) ≡ false → le (last_of tenors) t ≡ true → rate_of tenors rates t ≡ last_of rates
  unfolding rate_of
  last_rate_after h k = sym (past_last tenors rates t _ (knot tenors 0) refl h (last_of tenors) refl (last_of rates) refl k)
