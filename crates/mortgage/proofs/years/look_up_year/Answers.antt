-- `mortgage::years::look_up_year` meets its contract: the level kind reads no list. Assumes nothing.
use mathlib.Core.List.{[]}
use Rattle.mortgage.proofs.years.look_up_year.Goals as goal

pub returns : goal.returns
returns c = c.look_up_kind_year.ensures []
