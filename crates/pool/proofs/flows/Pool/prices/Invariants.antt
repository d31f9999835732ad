-- `pool::flows::Pool::prices` meets its contract: the prices at the rates before the one in hand are put. Assumes nothing.
use Rattle.std.proofs.Common.{◌≡◌, ℕ, ◌<◌, length, get_or}
use Rattle.std.specs.Float.{nan}
use Rattle.pool.specs.Price.{price_at}
use Rattle.pool.specs.Loans.{loans_in}
use Rattle.pool.proofs.flows.Pool.prices.Given as goal

abbrev pub invariant-loop-k : goal.invariant-loop-k
invariant-loop-k g l = (length l.prices ≡ g.row.N) × ((k : ℕ) → k < l.k → get_or l.prices k nan ≡ price_at (loans_in l.fn.self.loans.bytes.now) l.fn.self.speed l.fn.self.history.now (get_or l.fn.rates k nan))
