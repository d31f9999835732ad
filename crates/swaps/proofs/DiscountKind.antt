-- The discount curve is a curve of its kind: its zero rate and its discount factor are what `curves` says of a DiscountCurve. Assumes nothing.
use Rattle.std.proofs.Common.{◌≡◌, ℕ, ◌+◌, List, map, ◌++◌, length, take, refl, ap, ◌∙◌}
use lib.ListN.{length-map}
use lib.Seq.{take_at}
use lib.Ieee.{Float}
use Rattle.numbers.proofs.Mapped.{map_at}
use Rattle.elementary.specs.Exp.{exp}
use Rattle.curves.specs.declared.kinds.Kind.TheVariants as kind_is
use Rattle.curves.specs.Segments.{knot}
use Rattle.curves.specs.Kinds.{served_by, along, rate_on, discounted, discount_on}
use Rattle.curves.specs.Lists.{each_after}
use Rattle.curves.specs.Runs.{date_after, FactorsAfter as FactorsOn}
use Rattle.curves.proofs.Answers.{exp_of_exponent}
use Rattle.swaps.specs.Discount.{zero_rate_of, discount_of}
use Rattle.swaps.specs.Periods.{Terms}
use Rattle.swaps.specs.inner.Runs.{exponent_of, FactorsAfter, Listed, FactorsOf}

module _ (tenors zeros : List Float) where
  -- ---- at a time
  module _ (t : Float) where
    pub rate_is : rate_on kind_is.DiscountCurve tenors zeros t ≡ zero_rate_of tenors zeros t
    unfolding rate_on served_by along zero_rate_of
    rate_is = refl

    pub discount_is : discount_on kind_is.DiscountCurve tenors zeros t ≡ discount_of tenors zeros t
    unfolding rate_on served_by along zero_rate_of discounted discount_on discount_of
    discount_is = refl

    -- the exp of its exponent
    pub exp_is_discount : exp (exponent_of (zero_rate_of tenors zeros t) t) ≡ discount_of tenors zeros t
    unfolding discounted discount_of
    exp_is_discount = exp_of_exponent kind_is.DiscountCurve (zero_rate_of tenors zeros t) t

  -- ---- at each time of a list
  module _ (asked : List Float) where
    pub each_rate_is : each_after (rate_on kind_is.DiscountCurve tenors zeros) tenors zeros asked ≡ each_after (zero_rate_of tenors zeros) tenors zeros asked
    unfolding rate_on served_by along zero_rate_of
    each_rate_is = refl

    pub each_discount_is : each_after (discount_on kind_is.DiscountCurve tenors zeros) tenors zeros asked ≡ each_after (discount_of tenors zeros) tenors zeros asked
    unfolding rate_on served_by along zero_rate_of discounted discount_on discount_of
    each_discount_is = refl

  -- ---- at a run of dates
  pub factors_are : (dt : Float) (first count : ℕ) (factors : List Float) → FactorsOn kind_is.DiscountCurve dt tenors zeros first count factors → FactorsAfter dt tenors zeros first count factors
  factors_are dt first count factors each j h = each j h ∙ discount_is (date_after dt (first + j))

  -- ---- at a run of periods, worked out in front of a room of their times
  pub factors_of : (t : Terms) (first : ℕ) (times fractions room part rest : List Float) → Listed t.periods first (length times) times fractions → take (length times) room ≡ times
      → part ≡ map (discount_on kind_is.DiscountCurve tenors zeros) (take (length times) room) → FactorsOf t tenors zeros first (length times) (take (length times) (part ++ rest))
  factors_of t first times fractions room part rest listed front e j h =
      let is : part ≡ map (discount_on kind_is.DiscountCurve tenors zeros) times = e ∙ ap (map (discount_on kind_is.DiscountCurve tenors zeros)) front in
      ap (λ (p : List Float). knot p j) (take_at part rest (length times) (ap length is ∙ length-map times (discount_on kind_is.DiscountCurve tenors zeros)))
      ∙ ap (λ (p : List Float). knot p j) is
      ∙ map_at (discount_on kind_is.DiscountCurve tenors zeros) j times h
      ∙ discount_is (knot times j)
      ∙ ap (discount_of tenors zeros) (listed.of_times j h)
