-- How an answer is read: document 01's number for each cause, and the number and place, or the value, that an answer says. Definitions only. Assumes nothing.
use Rattle.std.specs.Prelude.{ℕ}
use Rattle.std.specs.declared.result.Result.{Result}
use Rattle.std.specs.declared.result.Result.TheVariants.{Ok, Err}
use Rattle.refusals.specs.declared.Cause.{Cause}
use Rattle.refusals.specs.declared.Cause.TheVariants.{Amount, Term, Room, Lengths, KnotCount, Knot, Time, Frequency, Number, PastEnd, Record, Bracket, BreakEven, Year, Date, Kind}
use Rattle.refusals.specs.declared.Refusal.{Refusal}
use Rattle.refusals.specs.Outcome.{Outcome, refused, accepted}

abbrev pub number : Cause → ℕ
number Amount = 1
number Term = 2
number Room = 3
number Lengths = 4
number KnotCount = 5
number Knot = 6
number Time = 7
number Frequency = 8
number Number = 9
number PastEnd = 10
number Record = 11
number Bracket = 12
number BreakEven = 13
number Year = 14
number Date = 15
number Kind = 16

abbrev pub outcome : {Value : Type 0} → Result Value Refusal → Outcome Value
outcome (Err r) = refused (number r.cause) r.place
outcome (Ok v) = accepted v
