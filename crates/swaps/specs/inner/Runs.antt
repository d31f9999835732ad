-- A run of periods, worked out together: their times and fractions, their discount factors, the sums up to a period, and the legs that these make.
-- Definitions only. Assumes nothing.
use Rattle.std.specs.Prelude.{◌≡◌, Bool, true, false, List, ℕ, ◌+◌, ◌<◌, Float}
use Rattle.numbers.specs.Sums.{added_up}
use Rattle.dates.specs.Periods.{is_span}
use Rattle.dates.specs.DayLists.{entry}
use Rattle.curves.specs.declared.kinds.Kind.TheVariants as kind_is
use Rattle.curves.specs.Segments.{knot}
use Rattle.curves.specs.Kinds.{exponent_at}
use Rattle.curves.specs.Runs.{date_after}
use Rattle.swaps.specs.declared.AnySwap.{AnySwap}
use Rattle.swaps.specs.declared.AnySwap.TheVariants.{Undated, Dated}
use Rattle.swaps.specs.declared.day_counts.DayCount.{DayCount}
use Rattle.swaps.specs.declared.day_counts.DayCount.TheVariants.{Actual360, Actual365, Thirty360}
use Rattle.swaps.specs.declared.legs.PaymentSums.{PaymentSums}
use Rattle.swaps.specs.declared.legs.BothSums.{BothSums}
use Rattle.swaps.specs.declared.legs.Legs.{Legs}
use Rattle.swaps.specs.DayCounts.{day_fraction}
use Rattle.swaps.specs.Discount.{discount_of}
use Rattle.swaps.specs.DatedSwap.{span_of}
use Rattle.swaps.specs.Periods.{Periods, Terms}
use Rattle.swaps.specs.Legs.{factor_at, fixed_term, floating_term, annuity_term, timed_term, last_factor, fixed_leg, floating_leg, annuity, weighted_sum}

-- what the discount factor at a time is the exp of, by the zero rate there
abbrev pub exponent_of : Float → Float → Float
exponent_of rate t = exponent_at kind_is.DiscountCurve rate t

-- so many discount factors, of the dates after the first ones
abbrev pub FactorsAfter : Float → List Float → List Float → ℕ → ℕ → List Float → Type 0
FactorsAfter dt tenors zeros first count factors = (j : ℕ) → j < count → knot factors j ≡ discount_of tenors zeros (date_after dt (first + j))

-- a swap whose periods can be worked out: of a dated one its dates are
abbrev pub HasPeriods : AnySwap → Type 0
HasPeriods (Undated s) = Unit
HasPeriods (Dated s) = is_span (span_of s) ≡ true

-- whether a day count's days are the 30/360 count's
abbrev pub by_thirties : DayCount → Bool
by_thirties Actual360 = false
by_thirties Actual365 = false
by_thirties Thirty360 = true

-- so many days as fractions of a year
abbrev pub FractionsOf : DayCount → List ℕ → ℕ → List Float → Type 0
FractionsOf d days count fractions = (j : ℕ) → j < count → knot fractions j ≡ day_fraction d (entry days j)

-- the times and the fractions of so many periods after the first ones
pub record Listed (p : Periods) (first count : ℕ) (times fractions : List Float) : Type 0 where
  pub of_times : (j : ℕ) → j < count → knot times j ≡ p.time (first + j)
  pub of_fractions : (j : ℕ) → j < count → knot fractions j ≡ p.fraction (first + j)

module _ (t : Terms) (tenors zeros : List Float) where
  -- the discount factors at the ends of so many periods after the first ones
  abbrev pub FactorsOf : ℕ → ℕ → List Float → Type 0
  FactorsOf first count factors = (j : ℕ) → j < count → knot factors j ≡ discount_of tenors zeros (t.periods.time (first + j))

  -- after the first periods: the four sums, and the discount factor at the end of the last of them
  pub record Summed (first : ℕ) (sums : PaymentSums) : Type 0 where
    pub of_fixed : sums.fixed ≡ added_up (fixed_term t tenors zeros) first
    pub of_floating : sums.floating ≡ added_up (floating_term t tenors zeros) first
    pub of_annuity : sums.annuity ≡ added_up (annuity_term t tenors zeros) first
    pub of_timed : sums.timed ≡ added_up (timed_term t tenors zeros) first
    pub of_last : sums.last ≡ factor_at t tenors zeros first

-- on a curve, and on another with the same tenors where that is asked for too
module _ (t : Terms) (tenors zeros higher : List Float) (both : Bool) (first : ℕ) where
  pub record SummedOnBoth (sums : BothSums) : Type 0 where
    pub on_base : Summed t tenors zeros first sums.base
    pub on_higher : both ≡ true → Summed t tenors higher first sums.higher

module _ (t : Terms) (tenors zeros : List Float) where
  pub record LegsOn (legs : Legs) : Type 0 where
    pub fixed_is : legs.fixed ≡ fixed_leg t tenors zeros
    pub floating_is : legs.floating ≡ floating_leg t tenors zeros
    pub annuity_is : legs.annuity ≡ annuity t tenors zeros
    pub weighted_is : legs.weighted ≡ weighted_sum t tenors zeros
    pub last_is : legs.last ≡ last_factor t tenors zeros
