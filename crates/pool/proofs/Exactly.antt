-- Every function over a pool refuses by the table's rule: number k at place p is given exactly when that is the lowest line with a cause and its first place. Assumes nothing.
use mathlib.Core.Bool.{false}
use mathlib.Core.List.{List}
use Prim.Native.Nat.{ℕ}
use lib.Ieee.{Float}
use Rattle.refusals.specs.Outcome.{ExactlyWhen, above}
use Rattle.refusals.proofs.Judging.{exactly}
use Rattle.pool.specs.declared.speed.Speed.{Speed}
use Rattle.pool.specs.Loans.{pool_lines}
use Rattle.pool.specs.Totals.{pool_totals}
use Rattle.pool.specs.Flows.{too_little, cash_flows}
use Rattle.pool.specs.Price.{pool_price, pool_duration, pool_convexity}

pub totals_refused_exactly : (bytes : List ℕ) → ExactlyWhen (pool_lines bytes false) (pool_totals bytes)
unfolding pool_totals above
totals_refused_exactly bytes = exactly _ (pool_lines bytes false) tt

pub flows_refused_exactly : (bytes : List ℕ) (room : ℕ) → ExactlyWhen (pool_lines bytes (too_little bytes room)) (cash_flows bytes room)
unfolding cash_flows above
flows_refused_exactly bytes room = exactly _ (pool_lines bytes (too_little bytes room)) tt

module _ (bytes : List ℕ) (speed : Speed) (history : List Float) (rate : Float) where
  pub price_refused_exactly : ExactlyWhen (pool_lines bytes false) (pool_price bytes speed history rate)
  unfolding pool_price above
  price_refused_exactly = exactly _ (pool_lines bytes false) tt

  pub duration_refused_exactly : ExactlyWhen (pool_lines bytes false) (pool_duration bytes speed history rate)
  unfolding pool_duration above
  duration_refused_exactly = exactly _ (pool_lines bytes false) tt

  pub convexity_refused_exactly : ExactlyWhen (pool_lines bytes false) (pool_convexity bytes speed history rate)
  unfolding pool_convexity above
  convexity_refused_exactly = exactly _ (pool_lines bytes false) tt
