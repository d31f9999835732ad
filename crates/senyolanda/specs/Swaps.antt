-- A swap as its record holds it, undated or dated, and what a bootstrap leaves in lent room. Definitions only. Assumes nothing.
use Rattle.std.specs.Prelude.{ℕ, Bool, not, List, [], ◌∷◌, ◌++◌, eqb, length, drop, Float}
use Rattle.refusals.specs.Outcome.{Outcome, accepted, and_then, judged}
use Rattle.refusals.specs.Table.{bad_code}
use Rattle.records.specs.declared.SwapRecord.{SwapRecord}
use Rattle.records.specs.declared.DatedSwapRecord.{DatedSwapRecord}
use Rattle.records.specs.Kinds.{read_swap_uncoded, read_dated_swap_uncoded}
use Rattle.swaps.specs.declared.Swap.{Swap}
use Rattle.swaps.specs.declared.DatedSwap.{DatedSwap}
use Rattle.swaps.specs.declared.AnySwap.{AnySwap}
use Rattle.swaps.specs.declared.AnySwap.TheVariants.{Undated, Dated}
use Rattle.swaps.specs.declared.day_counts.DayCount.{DayCount}
use Rattle.swaps.specs.declared.valuation.SwapValuation.{SwapValuation}
use Rattle.swaps.specs.Codes.{last_code, day_count_at, day_count_of}
use Rattle.swaps.specs.DayCounts.{day_fraction}
use Rattle.swaps.specs.Swap.{swap_lines}
use Rattle.swaps.specs.DatedSwap.{uncoded_dated_lines}
use Rattle.senyolanda.specs.Told.{coded}
use Rattle.senyolanda.specs.Dates.{date_numbers}

abbrev pub counted_by : DayCount → SwapRecord → Swap
counted_by d s = record { notional = s.notional; fixed_rate = s.rate; tenor = s.tenor; frequency = s.frequency; day_count = d }

abbrev pub swap_of : SwapRecord → Swap
swap_of s = counted_by (day_count_at s.count) s

-- the swap of a record, over a curve of tenors and zero rates
unfoldable pub swap_read : List ℕ → List Float → List Float → Outcome AnySwap
swap_read bytes tenors zeros =
    and_then (read_swap_uncoded bytes)
    (λ (s : SwapRecord). coded (bad_code last_code s.count) (judged (swap_lines (swap_of s) tenors zeros) tt) (Undated (swap_of s)))

-- what is asked of it
abbrev pub of_swap : {A : Type 0} → List ℕ → List Float → List Float → (AnySwap → Outcome A) → Outcome A
of_swap bytes tenors zeros asked = and_then (swap_read bytes tenors zeros) asked

-- ---- a dated swap: its record's tenor is not read
abbrev pub dated_by : DayCount → DatedSwapRecord → DatedSwap
dated_by d s = record { notional = s.notional; fixed_rate = s.rate; frequency = s.frequency; first = s.first; second = s.second; day_count = d }

abbrev pub dated_swap_of : DatedSwapRecord → DatedSwap
dated_swap_of s = dated_by (day_count_at s.count) s

unfoldable pub dated_swap_read : List ℕ → List Float → List Float → Outcome AnySwap
dated_swap_read bytes tenors zeros =
    and_then (read_dated_swap_uncoded bytes)
    (λ (s : DatedSwapRecord). coded (bad_code last_code s.count) (judged (uncoded_dated_lines (dated_swap_of s) tenors zeros) tt) (Dated (dated_swap_of s)))

abbrev pub of_dated_swap : {A : Type 0} → List ℕ → List Float → List Float → (AnySwap → Outcome A) → Outcome A
of_dated_swap bytes tenors zeros asked = and_then (dated_swap_read bytes tenors zeros) asked

-- so many days by a day count's code
unfoldable pub fraction_of : ℕ → ℕ → Outcome Float
fraction_of code days = and_then (day_count_of code) (λ (d : DayCount). accepted (day_fraction d days))

-- "false at 0, else true"
abbrev pub is_true : ℕ → Bool
is_true n = not (eqb n 0)

abbrev pub swap_numbers : SwapRecord → Float × Float × Float × ℕ × ℕ
swap_numbers s = (s.notional, s.rate, s.tenor, s.frequency, s.count)

abbrev pub dated_swap_numbers : DatedSwapRecord → Float × Float × Float × ℕ × List ℕ × List ℕ × ℕ
dated_swap_numbers s = (s.notional, s.rate, s.tenor, s.frequency, date_numbers s.first, date_numbers s.second, s.count)

-- six numbers of a valuation
abbrev pub valuation_numbers : SwapValuation → List Float
valuation_numbers v = v.npv ∷ v.fixed_pv ∷ v.floating_pv ∷ v.par_rate ∷ v.dv01 ∷ v.duration ∷ []

-- "places past the last knot stay"
abbrev pub zeros_over : List Float → List Float → List Float
zeros_over room zeros = zeros ++ drop (length zeros) room
