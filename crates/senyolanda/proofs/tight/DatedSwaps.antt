-- Dated swaps: whatever is given, each contract leaves one result, and one last state of what was lent. Assumes nothing.
use mathlib.Core.List.{List}
use lib.Ieee.{Float}
use Rattle.numbers.proofs.Determined.{Determined, Settled}
use Rattle.senyolanda.proofs.tight.OneAnswer.{one_result, one_last}
use Rattle.senyolanda.proofs.dated_swaps.senyolanda_dated_fixed_leg_pv.Kinds as dated_fixed_leg_pv_kinds
use Rattle.senyolanda.proofs.dated_swaps.senyolanda_dated_fixed_leg_pv.Reads as dated_fixed_leg_pv_reads
use Rattle.senyolanda.proofs.dated_swaps.senyolanda_dated_floating_leg_pv.Kinds as dated_floating_leg_pv_kinds
use Rattle.senyolanda.proofs.dated_swaps.senyolanda_dated_floating_leg_pv.Reads as dated_floating_leg_pv_reads
use Rattle.senyolanda.proofs.dated_swaps.senyolanda_dated_par_swap_rate.Kinds as dated_par_swap_rate_kinds
use Rattle.senyolanda.proofs.dated_swaps.senyolanda_dated_par_swap_rate.Reads as dated_par_swap_rate_reads
use Rattle.senyolanda.proofs.dated_swaps.senyolanda_dated_swap_duration.Kinds as dated_swap_duration_kinds
use Rattle.senyolanda.proofs.dated_swaps.senyolanda_dated_swap_duration.Reads as dated_swap_duration_reads
use Rattle.senyolanda.proofs.dated_swaps.senyolanda_dated_swap_npv.Kinds as dated_swap_npv_kinds
use Rattle.senyolanda.proofs.dated_swaps.senyolanda_dated_swap_npv.Reads as dated_swap_npv_reads
use Rattle.senyolanda.proofs.dated_swaps.senyolanda_dated_swap_dv01.Kinds as dated_swap_dv01_kinds
use Rattle.senyolanda.proofs.dated_swaps.senyolanda_dated_swap_dv01.Reads as dated_swap_dv01_reads
use Rattle.senyolanda.proofs.dated_swaps.senyolanda_value_dated_swap.Kinds as value_dated_swap_kinds
use Rattle.senyolanda.proofs.dated_swaps.senyolanda_value_dated_swap.Reads as value_dated_swap_reads

pub dated_fixed_leg_pv_determined : Determined _ dated_fixed_leg_pv_kinds.ps dated_fixed_leg_pv_kinds.r dated_fixed_leg_pv_reads.Post
dated_fixed_leg_pv_determined κs a x y e e' p q = one_result p q

pub dated_fixed_leg_pv_settled : Settled _ dated_fixed_leg_pv_kinds.ps dated_fixed_leg_pv_kinds.r dated_fixed_leg_pv_reads.Post
dated_fixed_leg_pv_settled κs a x y w w' p q = one_last (λ (u : Float). (tt, (tt, (tt, (u, tt))))) p q

pub dated_floating_leg_pv_determined : Determined _ dated_floating_leg_pv_kinds.ps dated_floating_leg_pv_kinds.r dated_floating_leg_pv_reads.Post
dated_floating_leg_pv_determined κs a x y e e' p q = one_result p q

pub dated_floating_leg_pv_settled : Settled _ dated_floating_leg_pv_kinds.ps dated_floating_leg_pv_kinds.r dated_floating_leg_pv_reads.Post
dated_floating_leg_pv_settled κs a x y w w' p q = one_last (λ (u : Float). (tt, (tt, (tt, (u, tt))))) p q

pub dated_par_swap_rate_determined : Determined _ dated_par_swap_rate_kinds.ps dated_par_swap_rate_kinds.r dated_par_swap_rate_reads.Post
dated_par_swap_rate_determined κs a x y e e' p q = one_result p q

pub dated_par_swap_rate_settled : Settled _ dated_par_swap_rate_kinds.ps dated_par_swap_rate_kinds.r dated_par_swap_rate_reads.Post
dated_par_swap_rate_settled κs a x y w w' p q = one_last (λ (u : Float). (tt, (tt, (tt, (u, tt))))) p q

pub dated_swap_duration_determined : Determined _ dated_swap_duration_kinds.ps dated_swap_duration_kinds.r dated_swap_duration_reads.Post
dated_swap_duration_determined κs a x y e e' p q = one_result p q

pub dated_swap_duration_settled : Settled _ dated_swap_duration_kinds.ps dated_swap_duration_kinds.r dated_swap_duration_reads.Post
dated_swap_duration_settled κs a x y w w' p q = one_last (λ (u : Float). (tt, (tt, (tt, (u, tt))))) p q

pub dated_swap_npv_determined : Determined _ dated_swap_npv_kinds.ps dated_swap_npv_kinds.r dated_swap_npv_reads.Post
dated_swap_npv_determined κs a x y e e' p q = one_result p q

pub dated_swap_npv_settled : Settled _ dated_swap_npv_kinds.ps dated_swap_npv_kinds.r dated_swap_npv_reads.Post
dated_swap_npv_settled κs a x y w w' p q = one_last (λ (u : Float). (tt, (tt, (tt, (tt, (u, tt)))))) p q

pub dated_swap_dv01_determined : Determined _ dated_swap_dv01_kinds.ps dated_swap_dv01_kinds.r dated_swap_dv01_reads.Post
dated_swap_dv01_determined κs a x y e e' p q = one_result p q

pub dated_swap_dv01_settled : Settled _ dated_swap_dv01_kinds.ps dated_swap_dv01_kinds.r dated_swap_dv01_reads.Post
dated_swap_dv01_settled κs a x y w w' p q = one_last (λ (u : Float). (tt, (tt, (tt, (tt, (u, tt)))))) p q

pub value_dated_swap_determined : Determined _ value_dated_swap_kinds.ps value_dated_swap_kinds.r value_dated_swap_reads.Post
value_dated_swap_determined κs a x y e e' p q = one_result p q

pub value_dated_swap_settled : Settled _ value_dated_swap_kinds.ps value_dated_swap_kinds.r value_dated_swap_reads.Post
value_dated_swap_settled κs a x y w w' p q = one_last (λ (u : List Float). (tt, (tt, (tt, (tt, (u, tt)))))) p q
