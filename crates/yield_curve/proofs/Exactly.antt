-- Every entry point of the crate refuses by the table's rule: number k at place p is given exactly when that is the lowest line with a cause and its first place. Assumes nothing.
use mathlib.Core.Bool.{◌||◌}
use mathlib.Core.List.{List, [], ◌∷◌, ◌++◌}
use lib.Ieee.{Float}
use Rattle.refusals.specs.Outcome.{ExactlyWhen, line, above}
use Rattle.refusals.specs.Table.{bad_time, too_many_periods}
use Rattle.refusals.proofs.Judging.{exactly}
use Rattle.yield_curve.specs.declared.nelson_siegel.NelsonSiegel.{NelsonSiegel}
use Rattle.curves.specs.Curve.{curve_lines, asked_lines}
use Rattle.yield_curve.specs.Linear.{half_years, linear_interpolate, discount_factor, forward_rate, par_yield}
use Rattle.yield_curve.specs.Spline.{cubic_spline_interpolate}
use Rattle.yield_curve.specs.NelsonSiegel.{yield_at, forward_rate_at}
use Rattle.yield_curve.specs.Fit.{fit}

module _ (times rates : List Float) where
  pub linear_refused_exactly : (t : Float) → ExactlyWhen (asked_lines times rates t) (linear_interpolate times rates t)
  unfolding linear_interpolate above
  linear_refused_exactly t = exactly _ (asked_lines times rates t) tt

  pub spline_refused_exactly : (t : Float) → ExactlyWhen (asked_lines times rates t) (cubic_spline_interpolate times rates t)
  unfolding cubic_spline_interpolate above
  spline_refused_exactly t = exactly _ (asked_lines times rates t) tt

  pub discount_refused_exactly : (t : Float) → ExactlyWhen (asked_lines times rates t) (discount_factor times rates t)
  unfolding discount_factor above
  discount_refused_exactly t = exactly _ (asked_lines times rates t) tt

  pub forward_refused_exactly : (t1 t2 : Float) → ExactlyWhen (curve_lines times rates ++ line 7 (bad_time t1 || bad_time t2) ∷ []) (forward_rate times rates t1 t2)
  unfolding forward_rate above
  forward_refused_exactly t1 t2 = exactly _ (curve_lines times rates ++ line 7 (bad_time t1 || bad_time t2) ∷ []) tt

  pub par_refused_exactly : (t : Float) → ExactlyWhen (curve_lines times rates ++ line 7 (bad_time t || too_many_periods (half_years t)) ∷ []) (par_yield times rates t)
  unfolding par_yield above
  par_refused_exactly t = exactly _ (curve_lines times rates ++ line 7 (bad_time t || too_many_periods (half_years t)) ∷ []) tt

  pub fit_refused_exactly : ExactlyWhen (curve_lines times rates) (fit times rates)
  unfolding fit above
  fit_refused_exactly = exactly _ (curve_lines times rates) tt

pub yield_refused_exactly : (m : NelsonSiegel) (t : Float) → ExactlyWhen (line 7 (bad_time t) ∷ []) (yield_at m t)
unfolding yield_at above
yield_refused_exactly m t = exactly _ (line 7 (bad_time t) ∷ []) tt

pub model_forward_refused_exactly : (m : NelsonSiegel) (t : Float) → ExactlyWhen (line 7 (bad_time t) ∷ []) (forward_rate_at m t)
unfolding forward_rate_at above
model_forward_refused_exactly m t = exactly _ (line 7 (bad_time t) ∷ []) tt
