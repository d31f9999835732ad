-- `bond::yields::yield_to_maturity` meets its contract: lines 1, 7 and 9 are asked first, and then line 12 decides. Assumes nothing.
use mathlib.Core.Path.{sym, ◌∙◌}
use mathlib.Core.List.{List, [], ◌∷◌}
use lib.Ieee.{Float}
use Rattle.refusals.specs.Outcome.{Line, line}
use Rattle.bond.specs.declared.Bond.{Bond}
use Rattle.bond.specs.Bonds.{bond_lines}
use Rattle.bond.specs.Yield.{no_bracket, yield_to_maturity}
use Rattle.refusals.proofs.LaterLines.{refused_first_on, accepted_first}
use Rattle.bond.proofs.yields.yield_to_maturity.Goals as goal

-- the line that is asked after the bond's
abbrev after : Bond → Float → List Line
after b market = line 12 (no_bracket b market) ∷ []

pub returns-in_err-judge_bond : goal.returns-in_err-judge_bond
unfolding yield_to_maturity
returns-in_err-judge_bond c =
    let b = c.of-worked.result.bond in
    let x = c.args.market in
    rw (sym c.of-worked.ensures)
    (refused_first_on (bond_lines b x) (after b x) _ _ c.judge_bond.ensures _ c.from_residual.ensures.1 c.in_err-judge_bond.was)

pub returns : goal.returns
unfolding yield_to_maturity
returns c =
    let b = c.of-worked.result.bond in
    let x = c.args.market in
    rw (sym c.of-worked.ensures)
    (c.yield_in_bracket.ensures ∙ accepted_first (bond_lines b x) (after b x) _ _ c.judge_bond.ensures c.in_ok-judge_bond.was)
