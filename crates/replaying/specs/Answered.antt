-- How an answer that a replayed question has is read: the library's as it is read there, and what is no question as a refusal with number 0, which no line of the table has. Definitions
-- only. Assumes nothing.
use Rattle.std.specs.declared.result.Result.{Result}
use Rattle.std.specs.declared.result.Result.TheVariants.{Ok, Err}
use Rattle.refusals.specs.Outcome.{Outcome, refused, accepted}
use Rattle.refusals.specs.Answers.{number}
use Rattle.replaying.specs.declared.Unanswered.{Unanswered}
use Rattle.replaying.specs.declared.Unanswered.TheVariants.{Refused, NoQuestion}

abbrev pub answered : {Value : Type 0} → Result Value Unanswered → Outcome Value
answered (Err (Refused r)) = refused (number r.cause) r.place
answered (Err NoQuestion) = refused 0 0
answered (Ok v) = accepted v
