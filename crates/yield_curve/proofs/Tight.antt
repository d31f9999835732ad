-- How tight the promises are: whatever a public function is given, any two results that its contract allows are equal. Assumes nothing.
use mathlib.Core.Path.{sym, ap, ◌∙◌}
use mathlib.Core.List.{List}
use lib.Ieee.{Float}
use Rattle.numbers.proofs.Determined.{Determined, Settled}
use Rattle.refusals.proofs.OneToOne.{one_to_one}
use Rattle.yield_curve.proofs.linear.linear_interpolate.Kinds as linear_interpolate_kinds
use Rattle.yield_curve.proofs.linear.linear_interpolate.Reads as linear_interpolate
use Rattle.yield_curve.proofs.linear.discount_factor.Kinds as discount_factor_kinds
use Rattle.yield_curve.proofs.linear.discount_factor.Reads as discount_factor
use Rattle.yield_curve.proofs.linear.forward_rate.Kinds as forward_rate_kinds
use Rattle.yield_curve.proofs.linear.forward_rate.Reads as forward_rate
use Rattle.yield_curve.proofs.linear.par_yield.Kinds as par_yield_kinds
use Rattle.yield_curve.proofs.linear.par_yield.Reads as par_yield
use Rattle.yield_curve.proofs.spline.cubic_spline_interpolate.Kinds as cubic_spline_interpolate_kinds
use Rattle.yield_curve.proofs.spline.cubic_spline_interpolate.Reads as cubic_spline_interpolate
use Rattle.yield_curve.proofs.nelson_siegel.instantaneous_forward.Kinds as instantaneous_forward_kinds
use Rattle.yield_curve.proofs.nelson_siegel.instantaneous_forward.Reads as instantaneous_forward
use Rattle.yield_curve.proofs.nelson_siegel.yield_at.Kinds as yield_at_kinds
use Rattle.yield_curve.proofs.nelson_siegel.yield_at.Reads as yield_at
use Rattle.yield_curve.proofs.nelson_siegel.forward_rate.Kinds as model_forward_rate_kinds
use Rattle.yield_curve.proofs.nelson_siegel.forward_rate.Reads as model_forward_rate
use Rattle.yield_curve.proofs.nelson_siegel.metrics.Kinds as metrics_kinds
use Rattle.yield_curve.proofs.nelson_siegel.metrics.Reads as metrics
use Rattle.yield_curve.proofs.solve.solve_system.Kinds as solve_system_kinds
use Rattle.yield_curve.proofs.solve.solve_system.Reads as solve_system
use Rattle.yield_curve.proofs.fitting.fit.Kinds as fit_kinds
use Rattle.yield_curve.proofs.fitting.fit.Reads as fit
use Rattle.yield_curve.proofs.each.rate_at_each.Kinds as rate_at_each_kinds
use Rattle.yield_curve.proofs.each.rate_at_each.Reads as rate_at_each
use Rattle.yield_curve.proofs.each.discount_factor_at_each.Kinds as discount_factor_at_each_kinds
use Rattle.yield_curve.proofs.each.discount_factor_at_each.Reads as discount_factor_at_each

-- ---- so each promise leaves one result
pub linear_interpolate_determined : Determined 2 linear_interpolate_kinds.ps linear_interpolate_kinds.r linear_interpolate.Post
linear_interpolate_determined κs a x y e e' p q = one_to_one x y (p ∙ sym q)

pub discount_factor_determined : Determined 2 discount_factor_kinds.ps discount_factor_kinds.r discount_factor.Post
discount_factor_determined κs a x y e e' p q = one_to_one x y (p ∙ sym q)

pub forward_rate_determined : Determined 2 forward_rate_kinds.ps forward_rate_kinds.r forward_rate.Post
forward_rate_determined κs a x y e e' p q = one_to_one x y (p ∙ sym q)

pub par_yield_determined : Determined 2 par_yield_kinds.ps par_yield_kinds.r par_yield.Post
par_yield_determined κs a x y e e' p q = one_to_one x y (p ∙ sym q)

pub cubic_spline_interpolate_determined : Determined 2 cubic_spline_interpolate_kinds.ps cubic_spline_interpolate_kinds.r cubic_spline_interpolate.Post
cubic_spline_interpolate_determined κs a x y e e' p q = one_to_one x y (p ∙ sym q)

pub instantaneous_forward_determined : Determined 0 instantaneous_forward_kinds.ps instantaneous_forward_kinds.r instantaneous_forward.Post
instantaneous_forward_determined κs a x y e e' p q = p ∙ sym q

pub yield_at_determined : Determined 0 yield_at_kinds.ps yield_at_kinds.r yield_at.Post
yield_at_determined κs a x y e e' p q = one_to_one x y (p ∙ sym q)

pub model_forward_rate_determined : Determined 0 model_forward_rate_kinds.ps model_forward_rate_kinds.r model_forward_rate.Post
model_forward_rate_determined κs a x y e e' p q = one_to_one x y (p ∙ sym q)

pub metrics_determined : Determined 0 metrics_kinds.ps metrics_kinds.r metrics.Post
metrics_determined κs a x y e e' p q = p ∙ sym q

pub solve_system_determined : Determined 0 solve_system_kinds.ps solve_system_kinds.r solve_system.Post
solve_system_determined κs a x y e e' p q = p ∙ sym q

pub fit_determined : Determined 2 fit_kinds.ps fit_kinds.r fit.Post
fit_determined κs a x y e e' p q = one_to_one x y (p ∙ sym q)

-- ---- lists of lookups: one verdict, and one list after the call
pub rate_at_each_determined : Determined 3 rate_at_each_kinds.ps rate_at_each_kinds.r rate_at_each.Post
rate_at_each_determined κs a x y e e' p q = one_to_one x y (p.0 ∙ sym q.0)

pub rate_at_each_settled : Settled 3 rate_at_each_kinds.ps rate_at_each_kinds.r rate_at_each.Post
rate_at_each_settled κs a x y w w' p q = ap (λ (l : List Float). (tt, (tt, (l, tt)))) (p.1 ∙ sym q.1)

pub discount_factor_at_each_determined : Determined 3 discount_factor_at_each_kinds.ps discount_factor_at_each_kinds.r discount_factor_at_each.Post
discount_factor_at_each_determined κs a x y e e' p q = one_to_one x y (p.0 ∙ sym q.0)

pub discount_factor_at_each_settled : Settled 3 discount_factor_at_each_kinds.ps discount_factor_at_each_kinds.r discount_factor_at_each.Post
discount_factor_at_each_settled κs a x y w w' p q = ap (λ (l : List Float). (tt, (tt, (l, tt)))) (p.1 ∙ sym q.1)
