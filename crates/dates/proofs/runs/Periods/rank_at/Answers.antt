-- `dates::runs::Periods::rank_at` meets its contract: the second date's rank from the last on, else that of the months' end. Assumes nothing.
use native.Mathlib.Omega.{arith}
use Rattle.dates.proofs.RankDates.{rank_from_last, rank_before_last}
use Rattle.dates.proofs.runs.Periods.rank_at.Goals as goal

pub returns-then-i-self : goal.returns-then-i-self
returns-then-i-self c = rw c.from.ensures (rank_from_last _ c.args.self.in_order _ _ c.month_index.ensures (omega (arith, c.args.self.counted)))

pub returns : goal.returns
returns c = rank_before_last _ c.args.self.in_order _ _ _ _ c.month_index-2.ensures (omega (arith, c.args.self.counted)) c.days_in-last.ensures (rw c.from-2.ensures at c.min.ensures)
