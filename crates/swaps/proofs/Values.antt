-- What is worked out from the legs is what the definitions say; and a swap that is accepted has a curve that rises, with at most 120 knots in either list, and has periods. Assumes nothing.
use mathlib.Core.Path.{◌≡◌, sym, ap, ◌∙◌}
use mathlib.Core.Bool.{Bool, cond, ◌||◌}
use mathlib.Core.List.{List, [], ◌∷◌, ◌++◌}
use Prim.Native.Nat.{◌≤◌}
use native.Mathlib.Omega.{arith}
use lib.ListN.{length}
use lib.Ieee.{Float, binary64, add, sub, div, eq}
use Rattle.numbers.specs.Literals.{one}
use Rattle.numbers.specs.Clamps.{plus_zero}
use Rattle.refusals.specs.Outcome.{accepted, Line, line}
use Rattle.refusals.specs.Table.{bad_time, too_many_periods, bad_frequency, bad_dated_frequency, bad_number}
use Rattle.refusals.proofs.Judging.{none_is, passed}
use Rattle.refusals.proofs.Verdicts.{verdict}
use Rattle.curves.specs.Segments.{Rising}
use Rattle.curves.specs.Curve.{curve_lines}
use Rattle.curves.proofs.CurveLines.{accepted_at_most_120}
use Rattle.curves.proofs.Listing.{same_length, in_rising_order}
use Rattle.dates.specs.Answers.{dates_line}
use Rattle.swaps.specs.declared.AnySwap.{AnySwap}
use Rattle.swaps.specs.declared.AnySwap.TheVariants.{Undated, Dated}
use Rattle.swaps.specs.declared.legs.Legs.{Legs}
use Rattle.swaps.specs.declared.valuation.SwapValuation.{SwapValuation}
use Rattle.swaps.specs.Discount.{zero_rate_of}
use Rattle.swaps.specs.Swap.{payments}
use Rattle.swaps.specs.DatedSwap.{too_many_dated}
use Rattle.swaps.specs.Periods.{Terms, lines_of}
use Rattle.swaps.specs.Valuation.{bumped, point_value, valuation}
use Rattle.swaps.specs.Legs.{fixed_leg, floating_leg, net_value, par_rate_of, duration}
use Rattle.swaps.specs.inner.Runs.{HasPeriods, LegsOn}
use Rattle.swaps.proofs.DatedSpans.{has_span}
use Rattle.std.specs.declared.result.Result.TheVariants.{Ok}
use Rattle.std.specs.declared.result.Result.{Result}
use Rattle.refusals.specs.declared.Refusal.{Refusal}
use Rattle.refusals.specs.Answers.{outcome}

module _ (t : Terms) (tenors : List Float) where
  -- ---- on a curve
  module _ (zeros : List Float) (legs : Legs) (on : LegsOn t tenors zeros legs) where
    pub net_is : (receives_fixed : Bool) → cond receives_fixed (sub binary64 legs.fixed legs.floating) (sub binary64 legs.floating legs.fixed) ≡ net_value t tenors zeros receives_fixed
    unfolding net_value
    net_is receives_fixed = rw (on.fixed_is, on.floating_is)

    pub par_is : div binary64 (sub binary64 one legs.last) legs.annuity ≡ par_rate_of t tenors zeros
    unfolding par_rate_of
    par_is = rw (on.last_is, on.annuity_is)

    pub duration_is :
        cond (eq legs.fixed plus_zero) plus_zero
        (div binary64 (div binary64 legs.weighted legs.fixed) (add binary64 one (div binary64 (zero_rate_of tenors zeros t.periods.end) t.per_year)))
        ≡ duration t tenors zeros
    unfolding duration
    duration_is = rw (on.fixed_is, on.weighted_is)

  -- ---- and where every zero rate is a basis point higher
  module _ (zeros : List Float) (receives_fixed : Bool) {worth higher : Float} (w : worth ≡ net_value t tenors zeros receives_fixed) (h : higher ≡ net_value t tenors (bumped zeros) receives_fixed) where
    pub point_is : sub binary64 higher worth ≡ point_value t tenors zeros receives_fixed
    unfolding point_value
    point_is = rw (h, w)

    pub valuation_is : {fixed floating par long : Float} → fixed ≡ fixed_leg t tenors zeros → floating ≡ floating_leg t tenors zeros → par ≡ par_rate_of t tenors zeros → long ≡ duration t tenors zeros
        → ◌≡◌ {A = SwapValuation} (record { npv = worth; fixed_pv = fixed; floating_pv = floating; par_rate = par; dv01 = sub binary64 higher worth; duration = long })
        (valuation t tenors zeros receives_fixed)
    unfolding valuation
    valuation_is f g p l = rw (point_is, w, f, g, p, l)

-- ---- a swap that is accepted: the lines after its curve's are those of its terms
abbrev term_lines : AnySwap → List Line
term_lines (Undated s) = line 7 (bad_time s.tenor || too_many_periods (payments s)) ∷ line 8 (bad_frequency s.frequency) ∷ line 9 (bad_number s.fixed_rate) ∷ []
term_lines (Dated s) =
    line 7 (too_many_dated s) ∷ line 8 (bad_dated_frequency s.frequency) ∷ line 9 (bad_number s.fixed_rate) ∷ dates_line s.first s.second ∷ []

module _ (tenors zeros : List Float) where
  from_4 : (swap : AnySwap) → accepted tt ≡ verdict (lines_of swap tenors zeros) → accepted tt ≡ verdict (curve_lines tenors zeros ++ term_lines swap)
  from_4 (Undated s) e = (passed tt tt _ _ e).1
  from_4 (Dated s) e = (passed tt tt _ _ e).1

  of_terms : (swap : AnySwap) → accepted tt ≡ verdict (curve_lines tenors zeros ++ term_lines swap) → accepted tt ≡ verdict (term_lines swap)
  of_terms swap e = (passed tt tt _ _ (passed tt tt _ _ (passed tt tt _ _ e).1).1).1

  periods_of : (swap : AnySwap) → accepted tt ≡ verdict (term_lines swap) → HasPeriods swap
  periods_of (Undated s) e = tt
  periods_of (Dated s) e =
      let from_8 = passed tt tt _ _ (passed tt tt _ _ e).1 in
      has_span s (none_is from_8.0 0) (none_is (passed tt tt _ _ (passed tt tt _ _ from_8.1).1).0 0)

  module _ (swap : AnySwap) (x : Result Unit Refusal) (judge : outcome x ≡ verdict (lines_of swap tenors zeros)) (h : x ≡ (Ok tt)) where
    abbrev of_curve : accepted tt ≡ verdict (curve_lines tenors zeros ++ term_lines swap)
    of_curve = from_4 swap (sym (ap outcome h) ∙ judge)

    pub swap_rises : Rising tenors
    swap_rises = in_rising_order tenors zeros (term_lines swap) of_curve

    pub few_knots : length zeros ≤ 120
    few_knots =
        let same = same_length tenors zeros (term_lines swap) of_curve in
        let few = accepted_at_most_120 tenors zeros (term_lines swap) of_curve in
        omega arith

    pub has_periods : HasPeriods swap
    has_periods = periods_of swap (of_terms swap of_curve)
