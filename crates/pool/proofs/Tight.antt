-- How tight the promises are: whatever a public function is given, any two results that its contract allows are equal, and for cash flows so are any two rooms that they may leave. Assumes nothing.
use mathlib.Core.Path.{sym, ap, ◌∙◌}
use mathlib.Core.List.{List}
use lib.Ieee.{Float}
use Rattle.numbers.proofs.Determined.{Determined, Settled}
use Rattle.refusals.proofs.OneToOne.{one_to_one}
use Rattle.pool.proofs.loans.judge_pool.Kinds as judge_pool_kinds
use Rattle.pool.proofs.loans.judge_pool.Reads as judge_pool
use Rattle.pool.proofs.speed.monthly_smm.Kinds as monthly_smm_kinds
use Rattle.pool.proofs.speed.monthly_smm.Reads as monthly_smm
use Rattle.pool.proofs.totals.pool_totals.Kinds as pool_totals_kinds
use Rattle.pool.proofs.totals.pool_totals.Reads as pool_totals
use Rattle.pool.proofs.flows.cash_flows.Kinds as cash_flows_kinds
use Rattle.pool.proofs.flows.cash_flows.Reads as cash_flows
use Rattle.pool.proofs.price.price.Kinds as price_kinds
use Rattle.pool.proofs.price.price.Reads as price
use Rattle.pool.proofs.price.duration.Kinds as duration_kinds
use Rattle.pool.proofs.price.duration.Reads as duration
use Rattle.pool.proofs.price.convexity.Kinds as convexity_kinds
use Rattle.pool.proofs.price.convexity.Reads as convexity

-- ---- so each promise leaves one result
pub monthly_smm_determined : Determined 1 monthly_smm_kinds.ps monthly_smm_kinds.r monthly_smm.Post
monthly_smm_determined κs a x y e e' p q = p ∙ sym q

pub pool_totals_determined : Determined 1 pool_totals_kinds.ps pool_totals_kinds.r pool_totals.Post
pool_totals_determined κs a x y e e' p q = one_to_one x y (p ∙ sym q)

pub price_determined : Determined 2 price_kinds.ps price_kinds.r price.Post
price_determined κs a x y e e' p q = one_to_one x y (p ∙ sym q)

pub duration_determined : Determined 2 duration_kinds.ps duration_kinds.r duration.Post
duration_determined κs a x y e e' p q = one_to_one x y (p ∙ sym q)

pub convexity_determined : Determined 2 convexity_kinds.ps convexity_kinds.r convexity.Post
convexity_determined κs a x y e e' p q = one_to_one x y (p ∙ sym q)

pub cash_flows_determined : Determined 3 cash_flows_kinds.ps cash_flows_kinds.r cash_flows.Post
cash_flows_determined κs a x y e e' p q = one_to_one x y (p.0 ∙ sym q.0)

-- and the flows' promise one room, the fourth parameter
pub cash_flows_room_settled : Settled 3 cash_flows_kinds.ps cash_flows_kinds.r cash_flows.Post
cash_flows_room_settled κs a x y w w' p q = ap (λ (l : List Float). (tt, (tt, (tt, (l, tt))))) (p.1 ∙ sym q.1)

pub judge_pool_determined : Determined 1 judge_pool_kinds.ps judge_pool_kinds.r judge_pool.Post
judge_pool_determined κs a x y e e' p q = one_to_one x y (p ∙ sym q)
