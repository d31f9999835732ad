-- `senyolanda::swap_values::senyolanda_bootstrap` meets its contract. Assumes nothing.
use Rattle.std.proofs.Common.{◌≡◌, arith, length, take}
use Rattle.std.proofs.lemmas.Grind.{common_steps}
use Rattle.senyolanda.proofs.Bootstrap.{zeros_of, solved, in_front, all_in_front, few}
use Rattle.senyolanda.proofs.Handed.{refused_so, accepted_so}
use Rattle.refusals.proofs.Verdicts.{refused_by}
use Rattle.swaps.specs.Bootstrap.{from_par_rates}
use Rattle.senyolanda.proofs.swap_values.senyolanda_bootstrap.Goals as goal

pub slice_bounds-copy_from_slice-end : goal.slice_bounds-copy_from_slice-end
slice_bounds-copy_from_slice-end c =
    let found = c.from_par_rates-found in
    few _ _ _ _ found.ensures.0 found.ensures.1 c.in-Ok.is

pub returns-in-Err : goal.returns-in-Err
unfolding from_par_rates
returns-in-Err c =
    let found = c.from_par_rates-found in
    refused_so _ _ _ _ _ _ (refused_by _ _ _ _ c.in-Err.is found.ensures.0) c.refusal_result.ensures

pub returns-in-Ok : goal.returns-in-Ok
returns-in-Ok c =
    let found = c.from_par_rates-found in
    let curve = found.result.curve in
    let zeros = zeros_of c.args.tenors.now c.args.par_rates.now in
    let front : take curve.knots curve.zeros ≡ zeros = in_front _ _ _ _ found.ensures.0 found.ensures.1 c.in-Ok.is in
    let all : curve.knots ≡ length zeros = all_in_front _ _ _ _ found.ensures.0 found.ensures.1 c.in-Ok.is in
    accepted_so _ _ _ _ _ (solved _ _ _ _ found.ensures.0 found.ensures.1 c.in-Ok.is) (grind (arith, common_steps))
