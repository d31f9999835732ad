-- `pool::flows::Pool::prices` meets its contract: the months that were filled are priced at each rate. Assumes nothing.
use mathlib.Core.Path.{◌∙◌}
use native.Mathlib.Omega.{arith}
use lib.Ieee.{nan}
use lib.ListN.{length-set, get_or}
use Rattle.steps.proofs.Places.{filled_more}
use Rattle.pool.specs.Loans.{loans_in}
use Rattle.pool.specs.Price.{price_at}
use Rattle.pool.proofs.Accepted.{longest_right}
use Rattle.pool.proofs.Pricing.{priced}
use Rattle.pool.proofs.flows.Pool.prices.Goals as goal

pub fill-months-requires : goal.fill-months-requires
fill-months-requires g c = omega (arith, longest_right _ c.args.self.terms)

pub price_over-requires : goal.price_over-requires
price_over-requires g c = omega (arith, c.fill-months.ensures.count, c.fill-months.auto.room, longest_right _ c.args.self.terms)

pub loop-k-preserved : goal.loop-k-preserved
loop-k-preserved g c =
    let head = c.loop-k in
    let pool = c.args.self in
    let price = c.price_over.ensures ∙ priced _ _ _ _ _ _ _ c.fill-months.ensures.room_after c.fill-months.ensures.count in
    let kept = length-set head.prices head.k c.price_over.result ∙ head.invariant.0 in
    (kept, filled_more head.prices head.k _ nan (λ k. price_at (loans_in pool.loans.bytes.now) pool.speed pool.history.now (get_or c.args.rates k nan)) (omega (arith, head.invariant.0)) price head.invariant.1)
