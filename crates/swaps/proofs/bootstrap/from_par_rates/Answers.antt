-- `swaps::bootstrap::from_par_rates` meets its contract: the verdict is the lines', and the curve goes with it. Assumes nothing.
use mathlib.Core.Path.{ap, ◌∙◌}
use lib.ListN.{length}
use Rattle.refusals.proofs.Verdicts.{refused_by, accepted_by}
use Rattle.swaps.specs.Bootstrap.{zeros_up_to, par_lines, from_par_rates}
use Rattle.swaps.specs.Bootstrapped.{curve_of, bootstrapped}
use Rattle.swaps.proofs.ParLines.{accepted_counts, accepted_tenors_rise}
use Rattle.swaps.proofs.bootstrap.from_par_rates.Goals as goal

pub solved_curve-requires : goal.solved_curve-requires
solved_curve-requires c =
    let a = c.args in
    let accepted = accepted_by _ _ _ c.in-Ok.is c.judge_pars.ensures in
    let counts = accepted_counts a.tenors.now a.pars.now accepted in
    (counts.0, counts.1, accepted_tenors_rise a.tenors.now a.pars.now accepted)

pub returns-in-Err : goal.returns-in-Err
unfolding curve_of bootstrapped from_par_rates
returns-in-Err c =
    let a = c.args in
    let tenors = a.tenors.now in
    let pars = a.pars.now in (
      refused_by (par_lines tenors pars) tt _ _ c.in-Err.is c.judge_pars.ensures,
      c.no_curve.ensures ∙ ap (curve_of tenors) (refused_by (par_lines tenors pars) (zeros_up_to tenors pars (length tenors)) _ _ c.in-Err.is c.judge_pars.ensures),
    )

pub returns-in-Ok : goal.returns-in-Ok
unfolding curve_of bootstrapped from_par_rates
returns-in-Ok c =
    let a = c.args in
    let tenors = a.tenors.now in
    let pars = a.pars.now in (
      accepted_by (par_lines tenors pars) tt _ c.in-Ok.is c.judge_pars.ensures,
      c.solved_curve.ensures ∙ ap (curve_of tenors) (accepted_by (par_lines tenors pars) (zeros_up_to tenors pars (length tenors)) _ c.in-Ok.is c.judge_pars.ensures),
    )
