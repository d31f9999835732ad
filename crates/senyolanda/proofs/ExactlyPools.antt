-- What is refused of a pool at the door that C uses: by the lines that the pool and its speed's code meet together, number k is given at p exactly when it is the lowest at some q that p is;
-- a q that no u32 holds is given as 4,294,967,295. Assumes nothing.
use mathlib.Core.Path.{◌≡◌}
use mathlib.Core.Logic.{◌↔◌}
use mathlib.Core.Bool.{Bool, false}
use mathlib.Core.List.{List}
use Prim.Native.Nat.{ℕ, min}
use lib.Ieee.{Float}
use Rattle.numbers.specs.Literals.{basis_point}
use Rattle.numbers.specs.Whole.{largest}
use Rattle.refusals.specs.Outcome.{Outcome, refused, Line, judged, Lowest, above, and_then}
use Rattle.refusals.specs.Places.{placed}
use Rattle.refusals.proofs.GivenPlaces.{placed_exactly}
use Rattle.pool.specs.declared.speed.Speed.{Speed}
use Rattle.pool.specs.Loans.{longest, loans_in, pool_lines}
use Rattle.pool.specs.Flows.{too_little, cash_flows}
use Rattle.pool.specs.Price.{price_at, duration_for, convexity_for, pool_price, pool_duration, pool_convexity}
use Rattle.pool.specs.Totals.{pool_totals}
use Rattle.senyolanda.specs.Pools.{speed_at, speed_lines, speed_for, months_of}
use Rattle.senyolanda.proofs.SpeedCodes.{by_the_table}

abbrev RefusedAt : {Value : Type 0} → List Line → Outcome Value → Type 0
RefusedAt lines o = (k p : ℕ) → (o ≡ refused k p) ↔ ((q : ℕ) × Lowest lines k q × (p ≡ min q largest))

pub totals_refused_at : (bytes : List ℕ) → RefusedAt (pool_lines bytes false) (placed (pool_totals bytes))
unfolding pool_totals above
totals_refused_at bytes = placed_exactly _ (pool_lines bytes false) tt

-- what is asked with a speed
with_speed : {Value : Type 0} (bytes : List ℕ) (no_room : Bool) (code : ℕ) (number : Float) (v : Speed → Value)
    → RefusedAt (speed_lines bytes no_room code) (and_then (speed_for bytes no_room code number) (λ (s : Speed). placed (judged (pool_lines bytes no_room) (v s))))
unfolding above
with_speed bytes no_room code number v = rw (by_the_table bytes no_room code number v) (placed_exactly (v (speed_at code number)) (speed_lines bytes no_room code) tt)

module _ (bytes : List ℕ) (code : ℕ) (number : Float) where
  pub months_refused_at : (room : ℕ) → RefusedAt (speed_lines bytes (too_little bytes room) code) (months_of bytes code number room)
  unfolding months_of cash_flows
  months_refused_at room = with_speed bytes (too_little bytes room) code number (λ (s : Speed). longest (loans_in bytes))

  module _ (history : List Float) (rate : Float) where
    pub price_refused_at : RefusedAt (speed_lines bytes false code) (and_then (speed_for bytes false code number) (λ (s : Speed). placed (pool_price bytes s history rate)))
    unfolding pool_price
    price_refused_at = with_speed bytes false code number (λ (s : Speed). price_at (loans_in bytes) s history rate)

    pub duration_refused_at : RefusedAt (speed_lines bytes false code) (and_then (speed_for bytes false code number) (λ (s : Speed). placed (pool_duration bytes s history rate)))
    unfolding pool_duration
    duration_refused_at = with_speed bytes false code number (λ (s : Speed). duration_for (loans_in bytes) s history basis_point rate)

    pub convexity_refused_at : RefusedAt (speed_lines bytes false code) (and_then (speed_for bytes false code number) (λ (s : Speed). placed (pool_convexity bytes s history rate)))
    unfolding pool_convexity
    convexity_refused_at = with_speed bytes false code number (λ (s : Speed). convexity_for (loans_in bytes) s history basis_point rate)
