-- What an answer says of the lines that it was asked by, whatever it holds. Definitions only. Assumes nothing.
use Rattle.std.specs.Prelude.{ℕ, Bool, false, List, Option, Some, None}
use Rattle.std.specs.declared.result.Result.{Result}
use Rattle.std.specs.declared.result.Result.TheVariants.{Ok, Err}
use Rattle.refusals.specs.declared.Refusal.{Refusal}
use Rattle.refusals.specs.Outcome.{Outcome, refused, accepted}
use Rattle.refusals.specs.Answers.{number}
use Rattle.pool.specs.Flows.{too_little}

abbrev pub verdict_of : {Value : Type 0} → Result Value Refusal → Outcome Unit
verdict_of (Err r) = refused (number r.cause) r.place
verdict_of (Ok v) = accepted tt

-- a room that is too little, where one is asked for
abbrev pub lacking : List ℕ → Option ℕ → Bool
lacking bytes None = false
lacking bytes (Some room) = too_little bytes room
