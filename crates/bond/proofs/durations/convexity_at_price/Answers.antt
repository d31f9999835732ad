-- `bond::durations::convexity_at_price` meets its contract: a refused yield is handed on. Assumes nothing.
use lib.Ieee.{Float}
use Rattle.bond.specs.Durations.{convexity, convexity_at_price}
use Rattle.refusals.proofs.InTurn.{refused_at_once, asked_then}
use Rattle.bond.proofs.durations.convexity_at_price.Goals as goal

pub returns-in_err-ytm : goal.returns-in_err-ytm
unfolding convexity_at_price
returns-in_err-ytm c =
    let b = c.args.bond in
    refused_at_once (λ (ytm : Float). convexity ytm b) _ _ c.yield_to_maturity.ensures _ c.from_residual.ensures.1 c.in_err-ytm.was

pub returns : goal.returns
unfolding convexity_at_price
returns c =
    let b = c.args.bond in
    asked_then (λ (ytm : Float). convexity ytm b) _ _ c.yield_to_maturity.ensures c.in_ok-ytm.was c.convexity.ensures
