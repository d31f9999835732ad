-- Spreads: whatever is given, each contract leaves one result, and one last state of what was lent. Assumes nothing.
use mathlib.Core.List.{List}
use Prim.Native.Nat.{ℕ}
use lib.Ieee.{Float}
use Rattle.numbers.proofs.Determined.{Determined, Settled}
use Rattle.senyolanda.proofs.tight.OneAnswer.{one_result, one_last, one_last_and_lists}
use Rattle.senyolanda.proofs.spreads.senyolanda_points_to_decimal.Kinds as points_to_decimal_kinds
use Rattle.senyolanda.proofs.spreads.senyolanda_points_to_decimal.Reads as points_to_decimal_reads
use Rattle.senyolanda.proofs.spreads.senyolanda_zero_curve_rate.Kinds as zero_curve_rate_kinds
use Rattle.senyolanda.proofs.spreads.senyolanda_zero_curve_rate.Reads as zero_curve_rate_reads
use Rattle.senyolanda.proofs.spreads.senyolanda_swap_curve_rate.Kinds as swap_curve_rate_kinds
use Rattle.senyolanda.proofs.spreads.senyolanda_swap_curve_rate.Reads as swap_curve_rate_reads
use Rattle.senyolanda.proofs.spreads.senyolanda_zero_curve_discount_factor.Kinds as zero_curve_discount_factor_kinds
use Rattle.senyolanda.proofs.spreads.senyolanda_zero_curve_discount_factor.Reads as zero_curve_discount_factor_reads
use Rattle.senyolanda.proofs.spreads.senyolanda_zero_curve_forward_rate.Kinds as zero_curve_forward_rate_kinds
use Rattle.senyolanda.proofs.spreads.senyolanda_zero_curve_forward_rate.Reads as zero_curve_forward_rate_reads
use Rattle.senyolanda.proofs.spreads.senyolanda_bond_cash_flows.Kinds as bond_cash_flows_kinds
use Rattle.senyolanda.proofs.spreads.senyolanda_bond_cash_flows.Reads as bond_cash_flows_reads
use Rattle.senyolanda.proofs.spreads.senyolanda_pv_cash_flows.Kinds as pv_cash_flows_kinds
use Rattle.senyolanda.proofs.spreads.senyolanda_pv_cash_flows.Reads as pv_cash_flows_reads
use Rattle.senyolanda.proofs.spreads.senyolanda_z_spread.Kinds as z_spread_kinds
use Rattle.senyolanda.proofs.spreads.senyolanda_z_spread.Reads as z_spread_reads
use Rattle.senyolanda.proofs.spreads.senyolanda_duration_convexity.Kinds as duration_convexity_kinds
use Rattle.senyolanda.proofs.spreads.senyolanda_duration_convexity.Reads as duration_convexity_reads

pub points_to_decimal_determined : Determined _ points_to_decimal_kinds.ps points_to_decimal_kinds.r points_to_decimal_reads.Post
points_to_decimal_determined κs a x y e e' p q = one_result p q

pub points_to_decimal_settled : Settled _ points_to_decimal_kinds.ps points_to_decimal_kinds.r points_to_decimal_reads.Post
points_to_decimal_settled κs a x y w w' p q = one_last (λ (u : Float). (tt, (u, tt))) p q

pub zero_curve_rate_determined : Determined _ zero_curve_rate_kinds.ps zero_curve_rate_kinds.r zero_curve_rate_reads.Post
zero_curve_rate_determined κs a x y e e' p q = one_result p q

pub zero_curve_rate_settled : Settled _ zero_curve_rate_kinds.ps zero_curve_rate_kinds.r zero_curve_rate_reads.Post
zero_curve_rate_settled κs a x y w w' p q = one_last (λ (u : Float). (tt, (tt, (tt, (u, tt))))) p q

pub swap_curve_rate_determined : Determined _ swap_curve_rate_kinds.ps swap_curve_rate_kinds.r swap_curve_rate_reads.Post
swap_curve_rate_determined κs a x y e e' p q = one_result p q

pub swap_curve_rate_settled : Settled _ swap_curve_rate_kinds.ps swap_curve_rate_kinds.r swap_curve_rate_reads.Post
swap_curve_rate_settled κs a x y w w' p q = one_last (λ (u : Float). (tt, (tt, (tt, (u, tt))))) p q

pub zero_curve_discount_factor_determined : Determined _ zero_curve_discount_factor_kinds.ps zero_curve_discount_factor_kinds.r zero_curve_discount_factor_reads.Post
zero_curve_discount_factor_determined κs a x y e e' p q = one_result p q

pub zero_curve_discount_factor_settled : Settled _ zero_curve_discount_factor_kinds.ps zero_curve_discount_factor_kinds.r zero_curve_discount_factor_reads.Post
zero_curve_discount_factor_settled κs a x y w w' p q = one_last (λ (u : Float). (tt, (tt, (tt, (u, tt))))) p q

pub zero_curve_forward_rate_determined : Determined _ zero_curve_forward_rate_kinds.ps zero_curve_forward_rate_kinds.r zero_curve_forward_rate_reads.Post
zero_curve_forward_rate_determined κs a x y e e' p q = one_result p q

pub zero_curve_forward_rate_settled : Settled _ zero_curve_forward_rate_kinds.ps zero_curve_forward_rate_kinds.r zero_curve_forward_rate_reads.Post
zero_curve_forward_rate_settled κs a x y w w' p q = one_last (λ (u : Float). (tt, (tt, (tt, (tt, (u, tt)))))) p q

pub bond_cash_flows_determined : Determined _ bond_cash_flows_kinds.ps bond_cash_flows_kinds.r bond_cash_flows_reads.Post
bond_cash_flows_determined κs a x y e e' p q = one_result p.0 q.0

pub bond_cash_flows_settled : Settled _ bond_cash_flows_kinds.ps bond_cash_flows_kinds.r bond_cash_flows_reads.Post
bond_cash_flows_settled κs a x y w w' p q = one_last_and_lists (λ (u : ℕ) (l m : List Float). (tt, (tt, (tt, (tt, (l, (m, (u, tt)))))))) p.0 q.0 p.1.0 q.1.0 p.1.1 q.1.1

pub pv_cash_flows_determined : Determined _ pv_cash_flows_kinds.ps pv_cash_flows_kinds.r pv_cash_flows_reads.Post
pv_cash_flows_determined κs a x y e e' p q = one_result p q

pub pv_cash_flows_settled : Settled _ pv_cash_flows_kinds.ps pv_cash_flows_kinds.r pv_cash_flows_reads.Post
pv_cash_flows_settled κs a x y w w' p q = one_last (λ (u : Float). (tt, (tt, (tt, (tt, (tt, (u, tt))))))) p q

pub z_spread_determined : Determined _ z_spread_kinds.ps z_spread_kinds.r z_spread_reads.Post
z_spread_determined κs a x y e e' p q = one_result p q

pub z_spread_settled : Settled _ z_spread_kinds.ps z_spread_kinds.r z_spread_reads.Post
z_spread_settled κs a x y w w' p q = one_last (λ (u : Float × ℕ). (tt, (tt, (tt, (tt, (tt, (u.0, (u.1, tt)))))))) p q

pub duration_convexity_determined : Determined _ duration_convexity_kinds.ps duration_convexity_kinds.r duration_convexity_reads.Post
duration_convexity_determined κs a x y e e' p q = one_result p q

pub duration_convexity_settled : Settled _ duration_convexity_kinds.ps duration_convexity_kinds.r duration_convexity_reads.Post
duration_convexity_settled κs a x y w w' p q = one_last (λ (u : List Float). (tt, (tt, (tt, (tt, (tt, (u, tt))))))) p q
