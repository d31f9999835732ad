-- The rate curves of spreads are of the kind SpreadCurve: what is read of that kind is what is read of them. Assumes nothing.
use mathlib.Core.Path.{◌≡◌, refl}
use mathlib.Core.List.{List}
use lib.Ieee.{Float}
use Rattle.curves.specs.declared.kinds.Kind.TheVariants as kind_is
use Rattle.curves.specs.Kinds.{served_by, along, rate_on, discounted, discount_on}
use Rattle.curves.specs.Lists.{each_after}
use Rattle.spread_analytics.specs.Curves.{rate_of, discount_of}

module _ (tenors rates : List Float) where
  module _ (t : Float) where
    pub same_rate : rate_on kind_is.SpreadCurve tenors rates t ≡ rate_of tenors rates t
    unfolding rate_on served_by along rate_of
    same_rate = refl

    pub same_discount : discount_on kind_is.SpreadCurve tenors rates t ≡ discount_of tenors rates t
    unfolding discount_on discounted rate_on served_by along discount_of rate_of
    same_discount = refl

  module _ (asked : List Float) where
    pub same_rates_after : each_after (rate_on kind_is.SpreadCurve tenors rates) tenors rates asked ≡ each_after (rate_of tenors rates) tenors rates asked
    unfolding rate_on served_by along rate_of
    same_rates_after = refl

    pub same_discounts_after : each_after (discount_on kind_is.SpreadCurve tenors rates) tenors rates asked ≡ each_after (discount_of tenors rates) tenors rates asked
    unfolding discount_on discounted rate_on served_by along discount_of rate_of
    same_discounts_after = refl
