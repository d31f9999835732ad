-- What a year of an adjustable loan begins with, before its balance is known. Definitions only. Assumes nothing.
use Rattle.std.specs.Prelude.{ℕ, ◌-◌, ◌≤◌, cond, ◌&&◌, ltb, List, length, Float, Option, Some, None}
use Rattle.mortgage.specs.declared.Loan.{Loan}
use Rattle.mortgage.specs.declared.kinds.Adjustment.{Adjustment}
use Rattle.mortgage.specs.declared.rates.Coming.{Coming}
use Rattle.mortgage.specs.Kinds.{Way, level, interest_only, balloon, adjustable, later_years}
use Rattle.mortgage.specs.Payment.{monthly_rate, growth, payment_by}
use Rattle.mortgage.specs.Rates.{next_rate, entry_behind, begins_later_year}

abbrev pub rate_behind : Adjustment → Float → ℕ → List Float → Float
rate_behind a last done index = next_rate a last (entry_behind index done)

-- where the month behind so many is due and begins a later year
abbrev pub coming_behind : Adjustment → Float → ℕ → ℕ → List Float → Option Coming
coming_behind a last done term index =
    cond (begins_later_year done && ltb done term) (Some (record { rate = rate_behind a last done index; factor = growth (monthly_rate (rate_behind a last done index)) (term - done) })) None

-- a loan with it
abbrev pub with_coming : Option Coming → Loan → Loan
with_coming None l = l
with_coming (Some c) l = record { term = l.term; rate = c.rate; payment = payment_by l.balance (monthly_rate c.rate) (l.term - l.done) c.factor; done = l.done; balance = l.balance }

-- the lent list has all the entries that a term reads; a kind that reads none asks for nothing
abbrev pub Listed : Way → ℕ → Type 0
Listed level term = Unit
Listed (interest_only months) term = Unit
Listed (balloon month) term = Unit
Listed (adjustable a index) term = later_years term ≤ length index
