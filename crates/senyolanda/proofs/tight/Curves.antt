-- Yield curves: whatever is given, each contract leaves one result, and one last state of what was lent. Assumes nothing.
use lib.Ieee.{Float}
use Rattle.numbers.proofs.Determined.{Determined, Settled}
use Rattle.senyolanda.proofs.tight.OneAnswer.{one_result, one_last}
use Rattle.senyolanda.proofs.yield_curves.senyolanda_linear_interpolate.Kinds as linear_interpolate_kinds
use Rattle.senyolanda.proofs.yield_curves.senyolanda_linear_interpolate.Reads as linear_interpolate_reads
use Rattle.senyolanda.proofs.yield_curves.senyolanda_cubic_spline_interpolate.Kinds as cubic_spline_interpolate_kinds
use Rattle.senyolanda.proofs.yield_curves.senyolanda_cubic_spline_interpolate.Reads as cubic_spline_interpolate_reads
use Rattle.senyolanda.proofs.yield_curves.senyolanda_yield_curve_discount_factor.Kinds as yield_curve_discount_factor_kinds
use Rattle.senyolanda.proofs.yield_curves.senyolanda_yield_curve_discount_factor.Reads as yield_curve_discount_factor_reads
use Rattle.senyolanda.proofs.yield_curves.senyolanda_yield_curve_forward_rate.Kinds as yield_curve_forward_rate_kinds
use Rattle.senyolanda.proofs.yield_curves.senyolanda_yield_curve_forward_rate.Reads as yield_curve_forward_rate_reads
use Rattle.senyolanda.proofs.yield_curves.senyolanda_par_yield.Kinds as par_yield_kinds
use Rattle.senyolanda.proofs.yield_curves.senyolanda_par_yield.Reads as par_yield_reads

pub linear_interpolate_determined : Determined _ linear_interpolate_kinds.ps linear_interpolate_kinds.r linear_interpolate_reads.Post
linear_interpolate_determined κs a x y e e' p q = one_result p q

pub linear_interpolate_settled : Settled _ linear_interpolate_kinds.ps linear_interpolate_kinds.r linear_interpolate_reads.Post
linear_interpolate_settled κs a x y w w' p q = one_last (λ (u : Float). (tt, (tt, (tt, (u, tt))))) p q

pub cubic_spline_interpolate_determined : Determined _ cubic_spline_interpolate_kinds.ps cubic_spline_interpolate_kinds.r cubic_spline_interpolate_reads.Post
cubic_spline_interpolate_determined κs a x y e e' p q = one_result p q

pub cubic_spline_interpolate_settled : Settled _ cubic_spline_interpolate_kinds.ps cubic_spline_interpolate_kinds.r cubic_spline_interpolate_reads.Post
cubic_spline_interpolate_settled κs a x y w w' p q = one_last (λ (u : Float). (tt, (tt, (tt, (u, tt))))) p q

pub yield_curve_discount_factor_determined : Determined _ yield_curve_discount_factor_kinds.ps yield_curve_discount_factor_kinds.r yield_curve_discount_factor_reads.Post
yield_curve_discount_factor_determined κs a x y e e' p q = one_result p q

pub yield_curve_discount_factor_settled : Settled _ yield_curve_discount_factor_kinds.ps yield_curve_discount_factor_kinds.r yield_curve_discount_factor_reads.Post
yield_curve_discount_factor_settled κs a x y w w' p q = one_last (λ (u : Float). (tt, (tt, (tt, (u, tt))))) p q

pub yield_curve_forward_rate_determined : Determined _ yield_curve_forward_rate_kinds.ps yield_curve_forward_rate_kinds.r yield_curve_forward_rate_reads.Post
yield_curve_forward_rate_determined κs a x y e e' p q = one_result p q

pub yield_curve_forward_rate_settled : Settled _ yield_curve_forward_rate_kinds.ps yield_curve_forward_rate_kinds.r yield_curve_forward_rate_reads.Post
yield_curve_forward_rate_settled κs a x y w w' p q = one_last (λ (u : Float). (tt, (tt, (tt, (tt, (u, tt)))))) p q

pub par_yield_determined : Determined _ par_yield_kinds.ps par_yield_kinds.r par_yield_reads.Post
par_yield_determined κs a x y e e' p q = one_result p q

pub par_yield_settled : Settled _ par_yield_kinds.ps par_yield_kinds.r par_yield_reads.Post
par_yield_settled κs a x y w w' p q = one_last (λ (u : Float). (tt, (tt, (tt, (u, tt))))) p q
