-- A refusal's place as a u32 holds it. Definitions only. Assumes nothing.
use Rattle.std.specs.Prelude.{min}
use Rattle.numbers.specs.Whole.{largest}
use Rattle.refusals.specs.Outcome.{Outcome, refused, accepted}

-- the index of the first bad item; one that no u32 holds is given as 4,294,967,295
unfoldable pub placed : {Value : Type 0} → Outcome Value → Outcome Value
placed (refused k p) = refused k (min p largest)
placed (accepted v) = accepted v
