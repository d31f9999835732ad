-- `senyolanda::balloon::senyolanda_look_up_balloon_year` meets its contract. Assumes nothing.
use Rattle.std.proofs.Common.{[], arith}
use Rattle.std.proofs.lemmas.Grind.{common_steps}
use Rattle.senyolanda.specs.Told.{told}
use Rattle.senyolanda.proofs.balloon.senyolanda_look_up_balloon_year.Goals as goal

pub returns : goal.returns
unfolding told
returns c = let found = c.look_up_kind_year-found.ensures [] in grind (arith, common_steps)
