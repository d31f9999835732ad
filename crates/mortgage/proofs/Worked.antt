-- Document 01's loan of three months, drawn as one row, then into a room that is refused, then as two rows: what was filed repays it, and is the paper's listing. Assumes nothing.
use mathlib.Core.Path.{◌≡◌, refl, subst}
use mathlib.Core.List.{List, [], ◌∷◌, map}
use Prim.Native.Nat.{ℕ, ◌-◌, ◌*◌}
use native.Mathlib.Omega.{arith}
use lib.ListN.{replicate}
use lib.Ieee.{Float, nan, binary64, add, sub, mul, div, lt, eq, fits, of_int, of_bits}
use Rattle.elementary.specs.WholePower.{turns, whole_power}
use Rattle.refusals.specs.Outcome.{refused, accepted, first_or, judged}
use Rattle.refusals.specs.Table.{bad_amount, bad_term, no_room, past_end}
use Rattle.records.specs.declared.Terms.{Terms}
use Rattle.mortgage.specs.declared.Loan.{Loan}
use Rattle.mortgage.specs.Row.{width}
use Rattle.mortgage.specs.Payment.{monthly_rate, growth, equal_part, payment, loan_of, opened_with, opened}
use Rattle.mortgage.specs.Rates.{in_force}
use Rattle.mortgage.specs.Month as months
use Rattle.mortgage.specs.Month.{interest_alone, last, principal, paid, remaining, row_on, next_on}
use Rattle.mortgage.specs.RowRule.{interest_of, principal_of, payment_of}
use Rattle.steps.specs.Steps.{pieces, stepped}
use Rattle.steps.specs.Calls as calls
use Rattle.mortgage.specs.Draws as draws
use Rattle.mortgage.specs.Demand3 as demand
use Rattle.mortgage.specs.Demand3.{Repaid}
use Rattle.mortgage.specs.Level.{due, drawn, filed, left, Repays, OpensAndRepays}
use Rattle.mortgage.proofs.Demand3.{demand3_worked_out}

abbrev number : ℕ → Float
number = of_bits binary64

-- "Principal 1200, rate 0, term 3"
abbrev pub terms : Terms
terms = record { principal = number 0x4092_c000_0000_0000; rate = number 0; term = 3 }

abbrev pub loan : Loan
loan = record { term = 3; rate = number 0; payment = number 0x4079_0000_0000_0000; done = 0; balance = number 0x4092_c000_0000_0000 }

-- room for one row, for none, and for two
abbrev one : List Float
one = replicate width nan

abbrev none : List Float
none = replicate (width - 1) nan

abbrev two : List Float
two = replicate (2 * width) nan

abbrev pub rooms : List (List Float)
rooms = one ∷ none ∷ two ∷ []

pub opens : opened terms ≡ accepted loan
unfolding opened opened_with judged first_or bad_amount bad_term loan_of payment growth equal_part whole_power turns monthly_rate add mul div eq lt of_int of_bits
opens = refl

-- the theorem, of this loan
repays : Repays terms loan
unfolding fits lt of_bits
repays = subst (OpensAndRepays terms) opens (demand3_worked_out terms tt tt tt (omega arith) (omega arith))

pub second_is_refused : drawn (left loan (one ∷ [])) none ≡ refused 3 0
unfolding calls.left draws.drawn judged first_or bad_term no_room past_end draws.portion months.due months.end_month stepped months.next_of next_on in_force
second_is_refused = refl

pub drawn_to_the_end : due (left loan rooms) ≡ 0
unfolding calls.left draws.drawn judged first_or bad_term no_room past_end draws.portion months.due months.end_month stepped months.next_of next_on in_force
drawn_to_the_end = refl

pub repaid_in_portions : Repaid terms.principal 3 (filed loan rooms)
repaid_in_portions = (repays rooms drawn_to_the_end).1

-- "1 4079000000000000 4079000000000000 0000000000000000 4089000000000000", and so on, with the month as a number
pub listing : filed loan rooms ≡ map number
    (0x3ff0_0000_0000_0000 ∷ 0x4079_0000_0000_0000 ∷ 0x4079_0000_0000_0000 ∷ 0 ∷ 0x4089_0000_0000_0000
    ∷ 0x4000_0000_0000_0000 ∷ 0x4079_0000_0000_0000 ∷ 0x4079_0000_0000_0000 ∷ 0 ∷ 0x4079_0000_0000_0000
    ∷ 0x4008_0000_0000_0000 ∷ 0x4079_0000_0000_0000 ∷ 0x4079_0000_0000_0000 ∷ 0 ∷ 0 ∷ [])
unfolding calls.filed demand.wrote draws.filled draws.drawn judged first_or bad_term no_room past_end draws.portion months.due months.end_month stepped pieces months.row_of months.next_of row_on next_on in_force interest_alone last principal paid remaining payment_of principal_of interest_of monthly_rate add sub mul div lt of_int of_bits
listing = refl
