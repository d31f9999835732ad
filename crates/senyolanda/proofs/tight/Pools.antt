-- Pools: whatever is given, each contract leaves one result, and one last state of what was lent. Assumes nothing.
use mathlib.Core.List.{List}
use Prim.Native.Nat.{ℕ}
use lib.Ieee.{Float}
use Rattle.numbers.proofs.Determined.{Determined, Settled}
use Rattle.senyolanda.proofs.tight.OneAnswer.{one_result, one_last, one_last_and_list}
use Rattle.senyolanda.proofs.pools.senyolanda_monthly_smm.Kinds as monthly_smm_kinds
use Rattle.senyolanda.proofs.pools.senyolanda_monthly_smm.Reads as monthly_smm_reads
use Rattle.senyolanda.proofs.pools.senyolanda_pool_cash_flows.Kinds as pool_cash_flows_kinds
use Rattle.senyolanda.proofs.pools.senyolanda_pool_cash_flows.Reads as pool_cash_flows_reads
use Rattle.senyolanda.proofs.pools.senyolanda_pool_price.Kinds as pool_price_kinds
use Rattle.senyolanda.proofs.pools.senyolanda_pool_price.Reads as pool_price_reads
use Rattle.senyolanda.proofs.pools.senyolanda_pool_duration.Kinds as pool_duration_kinds
use Rattle.senyolanda.proofs.pools.senyolanda_pool_duration.Reads as pool_duration_reads
use Rattle.senyolanda.proofs.pools.senyolanda_pool_convexity.Kinds as pool_convexity_kinds
use Rattle.senyolanda.proofs.pools.senyolanda_pool_convexity.Reads as pool_convexity_reads
use Rattle.senyolanda.proofs.pools.senyolanda_pool_totals.Kinds as pool_totals_kinds
use Rattle.senyolanda.proofs.pools.senyolanda_pool_totals.Reads as pool_totals_reads

pub monthly_smm_determined : Determined _ monthly_smm_kinds.ps monthly_smm_kinds.r monthly_smm_reads.Post
monthly_smm_determined κs a x y e e' p q = one_result p q

pub monthly_smm_settled : Settled _ monthly_smm_kinds.ps monthly_smm_kinds.r monthly_smm_reads.Post
monthly_smm_settled κs a x y w w' p q = one_last (λ (u : Float). (tt, (tt, (tt, (tt, (u, tt)))))) p q

pub pool_cash_flows_determined : Determined _ pool_cash_flows_kinds.ps pool_cash_flows_kinds.r pool_cash_flows_reads.Post
pool_cash_flows_determined κs a x y e e' p q = one_result p.0 q.0

pub pool_cash_flows_settled : Settled _ pool_cash_flows_kinds.ps pool_cash_flows_kinds.r pool_cash_flows_reads.Post
pool_cash_flows_settled κs a x y w w' p q = one_last_and_list (λ (u : ℕ) (l : List Float). (tt, (tt, (tt, (tt, (l, (u, tt))))))) p.0 q.0 p.1 q.1

pub pool_price_determined : Determined _ pool_price_kinds.ps pool_price_kinds.r pool_price_reads.Post
pool_price_determined κs a x y e e' p q = one_result p q

pub pool_price_settled : Settled _ pool_price_kinds.ps pool_price_kinds.r pool_price_reads.Post
pool_price_settled κs a x y w w' p q = one_last (λ (u : Float). (tt, (tt, (tt, (tt, (tt, (u, tt))))))) p q

pub pool_duration_determined : Determined _ pool_duration_kinds.ps pool_duration_kinds.r pool_duration_reads.Post
pool_duration_determined κs a x y e e' p q = one_result p q

pub pool_duration_settled : Settled _ pool_duration_kinds.ps pool_duration_kinds.r pool_duration_reads.Post
pool_duration_settled κs a x y w w' p q = one_last (λ (u : Float). (tt, (tt, (tt, (tt, (tt, (u, tt))))))) p q

pub pool_convexity_determined : Determined _ pool_convexity_kinds.ps pool_convexity_kinds.r pool_convexity_reads.Post
pool_convexity_determined κs a x y e e' p q = one_result p q

pub pool_convexity_settled : Settled _ pool_convexity_kinds.ps pool_convexity_kinds.r pool_convexity_reads.Post
pool_convexity_settled κs a x y w w' p q = one_last (λ (u : Float). (tt, (tt, (tt, (tt, (tt, (u, tt))))))) p q

pub pool_totals_determined : Determined _ pool_totals_kinds.ps pool_totals_kinds.r pool_totals_reads.Post
pool_totals_determined κs a x y e e' p q = one_result p q

pub pool_totals_settled : Settled _ pool_totals_kinds.ps pool_totals_kinds.r pool_totals_reads.Post
pool_totals_settled κs a x y w w' p q = one_last (λ (u : List Float). (tt, (u, tt))) p q
