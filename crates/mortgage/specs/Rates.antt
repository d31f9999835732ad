-- The rate and the payment of an adjustable loan, year by year, and what any kind gives for the next month. Definitions only. Assumes nothing.
use Rattle.std.specs.Prelude.{ℕ, zero, suc, ◌-◌, ◌/◌, ◌%◌, Bool, cond, ◌&&◌, List, T, eqb, ltb, get_or, Float}
use Rattle.std.specs.Float.{nan, binary64}
use Rattle.std.specs.Float.Ieee.{add, sub, lt, le}
use Rattle.std.specs.Float.Ieee.Scale.{finite}
use Rattle.mortgage.specs.declared.Loan.{Loan}
use Rattle.mortgage.specs.declared.kinds.Adjustment.{Adjustment}
use Rattle.mortgage.specs.Payment.{payment}
use Rattle.mortgage.specs.Kinds.{Way, level, interest_only, balloon, adjustable}

-- "Low = last rate - cap, high = last rate + cap, top = initial + lifetime, each rounded once"
abbrev pub lowest : Adjustment → Float → Float
lowest a last = sub binary64 last a.cap

abbrev pub highest : Adjustment → Float → Float
highest a last = add binary64 last a.cap

abbrev pub top : Adjustment → Float
top a = add binary64 a.initial a.lifetime

-- "raised to low if below it, else lowered to high if above it"
abbrev pub held_within : Float → Float → Float → Float
held_within low high x = cond (lt x low) low (cond (lt high x) high x)

-- "then lowered to top if above it"
abbrev pub not_above : Float → Float → Float
not_above most x = cond (lt most x) most x

-- "That year's rate is the index, first held within the adjustment cap of the last year's rate, then not above the initial rate plus the lifetime cap"
unfoldable pub next_rate : Adjustment → Float → Float → Float
next_rate a last index = not_above (top a) (held_within (lowest a last) (highest a last) index)

-- the entry of the year that begins behind so many months: year 2, behind 12, has the entry 0
abbrev pub entry_behind : List Float → ℕ → Float
entry_behind index done = get_or index (done / 12 - 1) nan

-- the rate of year y + 1: "year 1 runs at the initial rate"
unfoldable pub rate_of_year : Adjustment → List Float → ℕ → Float
rate_of_year a index zero = a.initial
rate_of_year a index (suc y) = next_rate a (rate_of_year a index y) (get_or index y nan)

-- what the caps leave of a year's rate beside the last year's, each bound rounded once. The difference of the two may be more than the cap: 0.05 + 0.02, rounded, less 0.05, rounded, is
-- above 0.02
pub record HeldByCaps (a : Adjustment) (last rate : Float) : Type 0 where
  pub at_least : T (le (lowest a last) rate)
  pub at_most : T (le rate (highest a last))
  pub under_top : T (le rate (top a))
  pub is_finite : T (finite rate)

-- ---- the loan with what is given for its next month
-- whether the month behind so many begins a year after the first
abbrev pub begins_later_year : ℕ → Bool
begins_later_year done = ltb 0 done && eqb (done % 12) 0

-- "the payment is worked out afresh on balance and months left"
unfoldable pub adjusted_to : Float → Loan → Loan
adjusted_to rate l = record {
  term = l.term;
  rate = rate;
  payment = payment (record { principal = l.balance; rate = rate; term = l.term - l.done });
  done = l.done;
  balance = l.balance;
}

-- a later year's first month has its own rate and payment; every other month has those that the loan holds
unfoldable pub in_force : Way → Loan → Loan
in_force level l = l
in_force (interest_only months) l = l
in_force (balloon month) l = l
in_force (adjustable a index) l = cond (begins_later_year l.done) (adjusted_to (next_rate a l.rate (entry_behind index l.done)) l) l
