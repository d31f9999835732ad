-- Swaps: whatever is given, each contract leaves one result, and one last state of what was lent. Assumes nothing.
use mathlib.Core.List.{List}
use lib.Ieee.{Float}
use Rattle.numbers.proofs.Determined.{Determined, Settled}
use Rattle.senyolanda.proofs.tight.OneAnswer.{one_result, one_last}
use Rattle.senyolanda.proofs.swap_values.senyolanda_day_count_fraction.Kinds as day_count_fraction_kinds
use Rattle.senyolanda.proofs.swap_values.senyolanda_day_count_fraction.Reads as day_count_fraction_reads
use Rattle.senyolanda.proofs.swap_values.senyolanda_bootstrap.Kinds as bootstrap_kinds
use Rattle.senyolanda.proofs.swap_values.senyolanda_bootstrap.Reads as bootstrap_reads
use Rattle.senyolanda.proofs.swap_values.senyolanda_discount_curve_rate.Kinds as discount_curve_rate_kinds
use Rattle.senyolanda.proofs.swap_values.senyolanda_discount_curve_rate.Reads as discount_curve_rate_reads
use Rattle.senyolanda.proofs.swap_values.senyolanda_discount_curve_factor.Kinds as discount_curve_factor_kinds
use Rattle.senyolanda.proofs.swap_values.senyolanda_discount_curve_factor.Reads as discount_curve_factor_reads
use Rattle.senyolanda.proofs.swap_values.senyolanda_fixed_leg_pv.Kinds as fixed_leg_pv_kinds
use Rattle.senyolanda.proofs.swap_values.senyolanda_fixed_leg_pv.Reads as fixed_leg_pv_reads
use Rattle.senyolanda.proofs.swap_values.senyolanda_floating_leg_pv.Kinds as floating_leg_pv_kinds
use Rattle.senyolanda.proofs.swap_values.senyolanda_floating_leg_pv.Reads as floating_leg_pv_reads
use Rattle.senyolanda.proofs.swap_values.senyolanda_swap_npv.Kinds as swap_npv_kinds
use Rattle.senyolanda.proofs.swap_values.senyolanda_swap_npv.Reads as swap_npv_reads
use Rattle.senyolanda.proofs.swap_values.senyolanda_par_swap_rate.Kinds as par_swap_rate_kinds
use Rattle.senyolanda.proofs.swap_values.senyolanda_par_swap_rate.Reads as par_swap_rate_reads
use Rattle.senyolanda.proofs.swap_values.senyolanda_swap_dv01.Kinds as swap_dv01_kinds
use Rattle.senyolanda.proofs.swap_values.senyolanda_swap_dv01.Reads as swap_dv01_reads
use Rattle.senyolanda.proofs.swap_values.senyolanda_swap_duration.Kinds as swap_duration_kinds
use Rattle.senyolanda.proofs.swap_values.senyolanda_swap_duration.Reads as swap_duration_reads
use Rattle.senyolanda.proofs.swap_values.senyolanda_value_swap.Kinds as value_swap_kinds
use Rattle.senyolanda.proofs.swap_values.senyolanda_value_swap.Reads as value_swap_reads

pub day_count_fraction_determined : Determined _ day_count_fraction_kinds.ps day_count_fraction_kinds.r day_count_fraction_reads.Post
day_count_fraction_determined κs a x y e e' p q = one_result p q

pub day_count_fraction_settled : Settled _ day_count_fraction_kinds.ps day_count_fraction_kinds.r day_count_fraction_reads.Post
day_count_fraction_settled κs a x y w w' p q = one_last (λ (u : Float). (tt, (tt, (u, tt)))) p q

pub bootstrap_determined : Determined _ bootstrap_kinds.ps bootstrap_kinds.r bootstrap_reads.Post
bootstrap_determined κs a x y e e' p q = one_result p q

pub bootstrap_settled : Settled _ bootstrap_kinds.ps bootstrap_kinds.r bootstrap_reads.Post
bootstrap_settled κs a x y w w' p q = one_last (λ (u : List Float). (tt, (tt, (u, tt)))) p q

pub discount_curve_rate_determined : Determined _ discount_curve_rate_kinds.ps discount_curve_rate_kinds.r discount_curve_rate_reads.Post
discount_curve_rate_determined κs a x y e e' p q = one_result p q

pub discount_curve_rate_settled : Settled _ discount_curve_rate_kinds.ps discount_curve_rate_kinds.r discount_curve_rate_reads.Post
discount_curve_rate_settled κs a x y w w' p q = one_last (λ (u : Float). (tt, (tt, (tt, (u, tt))))) p q

pub discount_curve_factor_determined : Determined _ discount_curve_factor_kinds.ps discount_curve_factor_kinds.r discount_curve_factor_reads.Post
discount_curve_factor_determined κs a x y e e' p q = one_result p q

pub discount_curve_factor_settled : Settled _ discount_curve_factor_kinds.ps discount_curve_factor_kinds.r discount_curve_factor_reads.Post
discount_curve_factor_settled κs a x y w w' p q = one_last (λ (u : Float). (tt, (tt, (tt, (u, tt))))) p q

pub fixed_leg_pv_determined : Determined _ fixed_leg_pv_kinds.ps fixed_leg_pv_kinds.r fixed_leg_pv_reads.Post
fixed_leg_pv_determined κs a x y e e' p q = one_result p q

pub fixed_leg_pv_settled : Settled _ fixed_leg_pv_kinds.ps fixed_leg_pv_kinds.r fixed_leg_pv_reads.Post
fixed_leg_pv_settled κs a x y w w' p q = one_last (λ (u : Float). (tt, (tt, (tt, (u, tt))))) p q

pub floating_leg_pv_determined : Determined _ floating_leg_pv_kinds.ps floating_leg_pv_kinds.r floating_leg_pv_reads.Post
floating_leg_pv_determined κs a x y e e' p q = one_result p q

pub floating_leg_pv_settled : Settled _ floating_leg_pv_kinds.ps floating_leg_pv_kinds.r floating_leg_pv_reads.Post
floating_leg_pv_settled κs a x y w w' p q = one_last (λ (u : Float). (tt, (tt, (tt, (u, tt))))) p q

pub swap_npv_determined : Determined _ swap_npv_kinds.ps swap_npv_kinds.r swap_npv_reads.Post
swap_npv_determined κs a x y e e' p q = one_result p q

pub swap_npv_settled : Settled _ swap_npv_kinds.ps swap_npv_kinds.r swap_npv_reads.Post
swap_npv_settled κs a x y w w' p q = one_last (λ (u : Float). (tt, (tt, (tt, (tt, (u, tt)))))) p q

pub par_swap_rate_determined : Determined _ par_swap_rate_kinds.ps par_swap_rate_kinds.r par_swap_rate_reads.Post
par_swap_rate_determined κs a x y e e' p q = one_result p q

pub par_swap_rate_settled : Settled _ par_swap_rate_kinds.ps par_swap_rate_kinds.r par_swap_rate_reads.Post
par_swap_rate_settled κs a x y w w' p q = one_last (λ (u : Float). (tt, (tt, (tt, (u, tt))))) p q

pub swap_dv01_determined : Determined _ swap_dv01_kinds.ps swap_dv01_kinds.r swap_dv01_reads.Post
swap_dv01_determined κs a x y e e' p q = one_result p q

pub swap_dv01_settled : Settled _ swap_dv01_kinds.ps swap_dv01_kinds.r swap_dv01_reads.Post
swap_dv01_settled κs a x y w w' p q = one_last (λ (u : Float). (tt, (tt, (tt, (tt, (u, tt)))))) p q

pub swap_duration_determined : Determined _ swap_duration_kinds.ps swap_duration_kinds.r swap_duration_reads.Post
swap_duration_determined κs a x y e e' p q = one_result p q

pub swap_duration_settled : Settled _ swap_duration_kinds.ps swap_duration_kinds.r swap_duration_reads.Post
swap_duration_settled κs a x y w w' p q = one_last (λ (u : Float). (tt, (tt, (tt, (u, tt))))) p q

pub value_swap_determined : Determined _ value_swap_kinds.ps value_swap_kinds.r value_swap_reads.Post
value_swap_determined κs a x y e e' p q = one_result p q

pub value_swap_settled : Settled _ value_swap_kinds.ps value_swap_kinds.r value_swap_reads.Post
value_swap_settled κs a x y w w' p q = one_last (λ (u : List Float). (tt, (tt, (tt, (tt, (u, tt)))))) p q
