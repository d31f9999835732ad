-- Bonds: whatever is given, each contract leaves one result, and one last state of what was lent. Assumes nothing.
use Prim.Native.Nat.{ℕ}
use lib.Ieee.{Float}
use Rattle.numbers.proofs.Determined.{Determined, Settled}
use Rattle.senyolanda.proofs.tight.OneAnswer.{one_result, one_last}
use Rattle.senyolanda.proofs.bonds.senyolanda_bond_price.Kinds as bond_price_kinds
use Rattle.senyolanda.proofs.bonds.senyolanda_bond_price.Reads as bond_price_reads
use Rattle.senyolanda.proofs.bonds.senyolanda_bond_dv01.Kinds as bond_dv01_kinds
use Rattle.senyolanda.proofs.bonds.senyolanda_bond_dv01.Reads as bond_dv01_reads
use Rattle.senyolanda.proofs.bonds.senyolanda_bond_current_yield.Kinds as bond_current_yield_kinds
use Rattle.senyolanda.proofs.bonds.senyolanda_bond_current_yield.Reads as bond_current_yield_reads
use Rattle.senyolanda.proofs.bonds.senyolanda_bond_yield_to_maturity.Kinds as bond_yield_to_maturity_kinds
use Rattle.senyolanda.proofs.bonds.senyolanda_bond_yield_to_maturity.Reads as bond_yield_to_maturity_reads
use Rattle.senyolanda.proofs.bonds.senyolanda_bond_macaulay_duration.Kinds as bond_macaulay_duration_kinds
use Rattle.senyolanda.proofs.bonds.senyolanda_bond_macaulay_duration.Reads as bond_macaulay_duration_reads
use Rattle.senyolanda.proofs.bonds.senyolanda_bond_modified_duration.Kinds as bond_modified_duration_kinds
use Rattle.senyolanda.proofs.bonds.senyolanda_bond_modified_duration.Reads as bond_modified_duration_reads
use Rattle.senyolanda.proofs.bonds.senyolanda_bond_convexity.Kinds as bond_convexity_kinds
use Rattle.senyolanda.proofs.bonds.senyolanda_bond_convexity.Reads as bond_convexity_reads
use Rattle.senyolanda.proofs.bonds.senyolanda_bond_price_change.Kinds as bond_price_change_kinds
use Rattle.senyolanda.proofs.bonds.senyolanda_bond_price_change.Reads as bond_price_change_reads
use Rattle.senyolanda.proofs.bonds.senyolanda_bond_macaulay_duration_at_price.Kinds as bond_macaulay_duration_at_price_kinds
use Rattle.senyolanda.proofs.bonds.senyolanda_bond_macaulay_duration_at_price.Reads as bond_macaulay_duration_at_price_reads
use Rattle.senyolanda.proofs.bonds.senyolanda_bond_modified_duration_at_price.Kinds as bond_modified_duration_at_price_kinds
use Rattle.senyolanda.proofs.bonds.senyolanda_bond_modified_duration_at_price.Reads as bond_modified_duration_at_price_reads
use Rattle.senyolanda.proofs.bonds.senyolanda_bond_convexity_at_price.Kinds as bond_convexity_at_price_kinds
use Rattle.senyolanda.proofs.bonds.senyolanda_bond_convexity_at_price.Reads as bond_convexity_at_price_reads
use Rattle.senyolanda.proofs.bonds.senyolanda_zero_coupon_bond_price.Kinds as zero_coupon_bond_price_kinds
use Rattle.senyolanda.proofs.bonds.senyolanda_zero_coupon_bond_price.Reads as zero_coupon_bond_price_reads
use Rattle.senyolanda.proofs.bonds.senyolanda_periods_per_year.Kinds as periods_per_year_kinds
use Rattle.senyolanda.proofs.bonds.senyolanda_periods_per_year.Reads as periods_per_year_reads

pub bond_price_determined : Determined _ bond_price_kinds.ps bond_price_kinds.r bond_price_reads.Post
bond_price_determined κs a x y e e' p q = one_result p q

pub bond_price_settled : Settled _ bond_price_kinds.ps bond_price_kinds.r bond_price_reads.Post
bond_price_settled κs a x y w w' p q = one_last (λ (u : Float). (tt, (tt, (u, tt)))) p q

pub bond_dv01_determined : Determined _ bond_dv01_kinds.ps bond_dv01_kinds.r bond_dv01_reads.Post
bond_dv01_determined κs a x y e e' p q = one_result p q

pub bond_dv01_settled : Settled _ bond_dv01_kinds.ps bond_dv01_kinds.r bond_dv01_reads.Post
bond_dv01_settled κs a x y w w' p q = one_last (λ (u : Float). (tt, (tt, (u, tt)))) p q

pub bond_current_yield_determined : Determined _ bond_current_yield_kinds.ps bond_current_yield_kinds.r bond_current_yield_reads.Post
bond_current_yield_determined κs a x y e e' p q = one_result p q

pub bond_current_yield_settled : Settled _ bond_current_yield_kinds.ps bond_current_yield_kinds.r bond_current_yield_reads.Post
bond_current_yield_settled κs a x y w w' p q = one_last (λ (u : Float). (tt, (tt, (u, tt)))) p q

pub bond_yield_to_maturity_determined : Determined _ bond_yield_to_maturity_kinds.ps bond_yield_to_maturity_kinds.r bond_yield_to_maturity_reads.Post
bond_yield_to_maturity_determined κs a x y e e' p q = one_result p q

pub bond_yield_to_maturity_settled : Settled _ bond_yield_to_maturity_kinds.ps bond_yield_to_maturity_kinds.r bond_yield_to_maturity_reads.Post
bond_yield_to_maturity_settled κs a x y w w' p q = one_last (λ (u : Float). (tt, (tt, (u, tt)))) p q

pub bond_macaulay_duration_determined : Determined _ bond_macaulay_duration_kinds.ps bond_macaulay_duration_kinds.r bond_macaulay_duration_reads.Post
bond_macaulay_duration_determined κs a x y e e' p q = one_result p q

pub bond_macaulay_duration_settled : Settled _ bond_macaulay_duration_kinds.ps bond_macaulay_duration_kinds.r bond_macaulay_duration_reads.Post
bond_macaulay_duration_settled κs a x y w w' p q = one_last (λ (u : Float). (tt, (tt, (u, tt)))) p q

pub bond_modified_duration_determined : Determined _ bond_modified_duration_kinds.ps bond_modified_duration_kinds.r bond_modified_duration_reads.Post
bond_modified_duration_determined κs a x y e e' p q = one_result p q

pub bond_modified_duration_settled : Settled _ bond_modified_duration_kinds.ps bond_modified_duration_kinds.r bond_modified_duration_reads.Post
bond_modified_duration_settled κs a x y w w' p q = one_last (λ (u : Float). (tt, (tt, (u, tt)))) p q

pub bond_convexity_determined : Determined _ bond_convexity_kinds.ps bond_convexity_kinds.r bond_convexity_reads.Post
bond_convexity_determined κs a x y e e' p q = one_result p q

pub bond_convexity_settled : Settled _ bond_convexity_kinds.ps bond_convexity_kinds.r bond_convexity_reads.Post
bond_convexity_settled κs a x y w w' p q = one_last (λ (u : Float). (tt, (tt, (u, tt)))) p q

pub bond_price_change_determined : Determined _ bond_price_change_kinds.ps bond_price_change_kinds.r bond_price_change_reads.Post
bond_price_change_determined κs a x y e e' p q = one_result p q

pub bond_price_change_settled : Settled _ bond_price_change_kinds.ps bond_price_change_kinds.r bond_price_change_reads.Post
bond_price_change_settled κs a x y w w' p q = one_last (λ (u : Float). (tt, (tt, (tt, (u, tt))))) p q

pub bond_macaulay_duration_at_price_determined : Determined _ bond_macaulay_duration_at_price_kinds.ps bond_macaulay_duration_at_price_kinds.r bond_macaulay_duration_at_price_reads.Post
bond_macaulay_duration_at_price_determined κs a x y e e' p q = one_result p q

pub bond_macaulay_duration_at_price_settled : Settled _ bond_macaulay_duration_at_price_kinds.ps bond_macaulay_duration_at_price_kinds.r bond_macaulay_duration_at_price_reads.Post
bond_macaulay_duration_at_price_settled κs a x y w w' p q = one_last (λ (u : Float). (tt, (tt, (u, tt)))) p q

pub bond_modified_duration_at_price_determined : Determined _ bond_modified_duration_at_price_kinds.ps bond_modified_duration_at_price_kinds.r bond_modified_duration_at_price_reads.Post
bond_modified_duration_at_price_determined κs a x y e e' p q = one_result p q

pub bond_modified_duration_at_price_settled : Settled _ bond_modified_duration_at_price_kinds.ps bond_modified_duration_at_price_kinds.r bond_modified_duration_at_price_reads.Post
bond_modified_duration_at_price_settled κs a x y w w' p q = one_last (λ (u : Float). (tt, (tt, (u, tt)))) p q

pub bond_convexity_at_price_determined : Determined _ bond_convexity_at_price_kinds.ps bond_convexity_at_price_kinds.r bond_convexity_at_price_reads.Post
bond_convexity_at_price_determined κs a x y e e' p q = one_result p q

pub bond_convexity_at_price_settled : Settled _ bond_convexity_at_price_kinds.ps bond_convexity_at_price_kinds.r bond_convexity_at_price_reads.Post
bond_convexity_at_price_settled κs a x y w w' p q = one_last (λ (u : Float). (tt, (tt, (u, tt)))) p q

pub zero_coupon_bond_price_determined : Determined _ zero_coupon_bond_price_kinds.ps zero_coupon_bond_price_kinds.r zero_coupon_bond_price_reads.Post
zero_coupon_bond_price_determined κs a x y e e' p q = one_result p q

pub zero_coupon_bond_price_settled : Settled _ zero_coupon_bond_price_kinds.ps zero_coupon_bond_price_kinds.r zero_coupon_bond_price_reads.Post
zero_coupon_bond_price_settled κs a x y w w' p q = one_last (λ (u : Float). (tt, (tt, (u, tt)))) p q

pub periods_per_year_determined : Determined _ periods_per_year_kinds.ps periods_per_year_kinds.r periods_per_year_reads.Post
periods_per_year_determined κs a x y e e' p q = one_result p q

pub periods_per_year_settled : Settled _ periods_per_year_kinds.ps periods_per_year_kinds.r periods_per_year_reads.Post
periods_per_year_settled κs a x y w w' p q = one_last (λ (u : ℕ). (tt, (u, tt))) p q
