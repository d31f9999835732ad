-- The yield curve is the first of the three kinds: its definitions are the kind's. Assumes nothing.
use mathlib.Core.Path.{◌≡◌, refl}
use mathlib.Core.List.{List}
use lib.Ieee.{Float}
use Rattle.curves.specs.declared.kinds.Kind.TheVariants as kind_is
use Rattle.curves.specs.Kinds.{served_by, along, rate_on, discounted, discount_on}
use Rattle.refusals.proofs.Verdicts.{accepted_by}
use Rattle.curves.proofs.CurveLines.{accepted_of_120}
use Rattle.curves.proofs.Listing.{accepted_rises}
use Rattle.yield_curve.specs.Linear.{yield_of, discount_of}

module _ (times rates : List Float) (t : Float) where
  pub yield_on_lem : rate_on kind_is.YieldCurve times rates t ≡ yield_of times rates t
  unfolding rate_on served_by along yield_of
  yield_on_lem = refl

  pub discount_on_lem : discount_on kind_is.YieldCurve times rates t ≡ discount_of times rates t
  unfolding discount_on discounted rate_on served_by along discount_of yield_of
  discount_on_lem = refl

-- what a function cites that judges the curve and what is asked of it first
pub ruleset asked_first = (accepted_by, accepted_rises, accepted_of_120)
