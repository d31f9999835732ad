-- `pool::flows::Pool::set_speeds` meets its contract: the speeds of the months before the one in hand are put. Assumes nothing.
use Rattle.std.proofs.Common.{◌≡◌, ℕ, ◌+◌, ◌<◌, get_or}
use Rattle.std.specs.Float.{nan}
use Rattle.pool.specs.Speed.{smm}
use Rattle.pool.proofs.flows.Pool.set_speeds.Given as goal

abbrev pub invariant-loop-k : goal.invariant-loop-k
invariant-loop-k l = (k : ℕ) → k < l.k → get_or l.speeds k nan ≡ smm l.self.speed l.self.history.now (k + 1)
