-- `dates::runs::Periods::put_ranks` meets its contract: each place holds what the closure gives. Assumes nothing.
use Rattle.std.proofs.Common.{rules}
use Rattle.dates.proofs.runs.Periods.put_ranks.Goals as goal

pub returns : goal.returns
returns c = λ j h. let e = c.put_each.ensures j h in search rules
