-- A list of periods, whoever made it: how many there are, when each ends and what fraction of a year it is, and when the last ends. Document 01's periods of a swap are one, document 02's
-- dated ones another; legs and values are said over either. Definitions only. Assumes nothing.
use Rattle.std.specs.Prelude.{ℕ, suc, List, pos, Float}
use Rattle.std.specs.Float.{binary64}
use Rattle.std.specs.Float.Ieee.{of_int}
use Rattle.refusals.specs.Outcome.{Line}
use Rattle.dates.specs.Periods.{bound, period_count}
use Rattle.swaps.specs.declared.Swap.{Swap}
use Rattle.swaps.specs.declared.DatedSwap.{DatedSwap}
use Rattle.swaps.specs.declared.AnySwap.{AnySwap}
use Rattle.swaps.specs.declared.AnySwap.TheVariants.{Undated, Dated}
use Rattle.swaps.specs.DayCounts.{dated_fraction, time_to}
use Rattle.swaps.specs.Swap.{per_year, payments, fraction, pay_date, swap_lines}
use Rattle.swaps.specs.DatedSwap.{span_of, dated_lines}

-- periods count from 0; a time is in years from the start
pub record Periods : Type 0 where
  pub count : ℕ
  pub time : ℕ → Float
  pub fraction : ℕ → Float
  pub end : Float

-- document 01's: a payment each 1/frequency years, all of one fraction, and the notional at the tenor
unfoldable pub of_swap : Swap → Periods
of_swap s = record { count = payments s; time = λ (k : ℕ). pay_date s (suc k); fraction = λ (k : ℕ). fraction s; end = s.tenor }

-- document 02's: from bound to bound, each with the fraction of its own dates
unfoldable pub of_dates : DatedSwap → Periods
of_dates s = record {
  count = period_count (span_of s);
  time = λ (k : ℕ). time_to s.first (bound (span_of s) (suc k));
  fraction = λ (k : ℕ). dated_fraction s.day_count (bound (span_of s) k) (bound (span_of s) (suc k));
  end = time_to s.first s.second;
}

-- what is paid, how often a year, and when
pub record Terms : Type 0 where
  pub notional : Float
  pub rate : Float
  pub per_year : Float
  pub periods : Periods

unfoldable pub terms_of : AnySwap → Terms
terms_of (Undated s) = record { notional = s.notional; rate = s.fixed_rate; per_year = per_year s; periods = of_swap s }
terms_of (Dated s) = record { notional = s.notional; rate = s.fixed_rate; per_year = of_int binary64 (pos s.frequency); periods = of_dates s }

-- what every function over a swap and a curve asks first
abbrev pub lines_of : AnySwap → List Float → List Float → List Line
lines_of (Undated s) = swap_lines s
lines_of (Dated s) = dated_lines s
