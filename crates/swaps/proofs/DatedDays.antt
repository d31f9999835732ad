-- The times and fractions of a dated swap's periods, from the days of its span's. Assumes nothing.
use mathlib.Core.Path.{◌≡◌, refl, ap, ◌∙◌}
use mathlib.Core.Bool.{Bool, true, cond}
use mathlib.Core.List.{List, ◌++◌}
use Prim.Native.Nat.{ℕ, suc, ◌+◌}
use native.Mathlib.Omega.{arith}
use lib.ListN.{length, get_or-append}
use lib.Ieee.{Float}
use Rattle.dates.specs.declared.Date.{Date}
use Rattle.dates.specs.declared.periods.Span.{Span}
use Rattle.dates.specs.Counts.{actual_days, thirty_days}
use Rattle.dates.specs.Periods.{is_span, bound}
use Rattle.dates.specs.DayLists.{DaysListed, elapsed_at, counted_at}
use Rattle.swaps.specs.declared.DatedSwap.{DatedSwap}
use Rattle.swaps.specs.declared.day_counts.DayCount.{DayCount}
use Rattle.swaps.specs.declared.day_counts.DayCount.TheVariants.{Actual360, Actual365, Thirty360}
use Rattle.swaps.specs.DayCounts.{day_fraction, days_by, dated_fraction, time_to}
use Rattle.swaps.specs.DatedSwap.{span_of}
use Rattle.swaps.specs.Periods.{of_dates}
use Rattle.swaps.specs.inner.Runs.{by_thirties, FractionsOf, Listed}

-- a day count's days
days_by_lem : (d : DayCount) (first second : Date) → cond (by_thirties d) (thirty_days first second) (actual_days first second) ≡ days_by d first second
unfolding days_by
days_by_lem Actual360 first second = refl
days_by_lem Actual365 first second = refl
days_by_lem Thirty360 first second = refl

pub span_is : (span : Span) (s : DatedSwap) → span ≡ span_of s → is_span (span_of s) ≡ true → is_span span ≡ true
span_is span s same e = ap is_span same ∙ e

-- at the front of longer lists
pub days_in_front : (span : Span) (thirties : Bool) (first n : ℕ) (xs ys more others : List ℕ) → length xs ≡ n → length ys ≡ n
    → DaysListed span thirties first (length xs) xs ys → DaysListed span thirties first n (xs ++ more) (ys ++ others)
days_in_front span thirties first n xs ys more others e f l = record {
  of_elapsed = λ j h. get_or-append xs more 0 j (omega arith) ∙ l.of_elapsed j (omega arith);
  of_counted = λ j h. get_or-append ys others 0 j (omega arith) ∙ l.of_counted j (omega arith);
}

module _ (s : DatedSwap) where
  time_at_lem : (k : ℕ) → day_fraction Actual365 (elapsed_at (span_of s) k) ≡ (of_dates s).time k
  unfolding elapsed_at of_dates time_to span_of
  time_at_lem k = refl

  fraction_at : (k : ℕ) → day_fraction s.day_count (counted_at (span_of s) (by_thirties s.day_count) k) ≡ (of_dates s).fraction k
  unfolding counted_at of_dates dated_fraction
  fraction_at k = ap (day_fraction s.day_count) (days_by_lem s.day_count (bound (span_of s) k) (bound (span_of s) (suc k)))

  pub dated_listed : (span : Span) → span ≡ span_of s → (thirties : Bool) → thirties ≡ by_thirties s.day_count → (first n : ℕ) (elapsed days : List ℕ) → DaysListed span thirties first n elapsed days
      → (times fractions : List Float) → FractionsOf Actual365 elapsed n times → FractionsOf s.day_count days n fractions → Listed (of_dates s) first n times fractions
  dated_listed span same thirties is first n elapsed days l times fractions t f = record {
    of_times = λ j h.
        t j h ∙ ap (day_fraction Actual365) (l.of_elapsed j h ∙ ap (λ (u : Span). elapsed_at u (first + j)) same) ∙ time_at_lem (first + j);
    of_fractions = λ j h.
        f j h
        ∙ ap (day_fraction s.day_count) (l.of_counted j h ∙ ap (λ (u : Span). counted_at u thirties (first + j)) same ∙ ap (λ (b : Bool). counted_at (span_of s) b (first + j)) is)
        ∙ fraction_at (first + j);
  }
