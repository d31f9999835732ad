-- `senyolanda::date_counts::date_of` meets its contract. Assumes nothing.
use Rattle.dates.specs.Calendar.{is_date}
use Rattle.senyolanda.proofs.ThreeNumbers.{held_or}
use Rattle.senyolanda.proofs.date_counts.date_of.Goals as goal
use mathlib.Core.Path.{refl}
use mathlib.Core.Path.{subst, sym}
use Rattle.dates.specs.declared.Date.{Date}
use Rattle.senyolanda.proofs.ThreeNumbers.{Alike}

pub returns : goal.returns
unfolding is_date
returns c = rw c.unwrap_or.ensures (held_or _ _ _ c.held_date.ensures.some c.held_date.ensures.when refl)
