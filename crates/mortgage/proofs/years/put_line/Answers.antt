-- `mortgage::years::put_line` meets its contract: a part written over is so many stores, one after the other. Assumes nothing.
use native.Mathlib.Omega.{arith}
use Rattle.std.proofs.lemmas.Grind.{common_steps}
use Rattle.std.proofs.lemmas.List.Edits.{sets-eq}
use Rattle.mortgage.specs.Years.{year_places}
use Rattle.mortgage.proofs.years.put_line.Goals as goal

pub returns : goal.returns
returns c =
    let a = c.args in
    grind (arith, common_steps, sets-eq (year_places a.year) a.years.now a.place c.requires)
