-- `mortgage::draws::put_row` meets its contract: a part written over is so many stores, one after the other. Assumes nothing.
use native.Mathlib.Omega.{arith}
use Rattle.std.proofs.lemmas.Grind.{common_steps}
use Rattle.std.proofs.lemmas.List.Edits.{sets-eq}
use Rattle.mortgage.specs.Row.{places}
use Rattle.mortgage.proofs.draws.put_row.Goals as goal

pub returns : goal.returns
returns c =
    let a = c.args in
    grind (arith, common_steps, sets-eq (places a.row) a.room.now a.at c.requires)
