-- `mortgage::pairs::lay_pair` meets its contract: the ordinary months of both loans and then the rest of each are all the rows of both. Assumes nothing.
use native.Mathlib.Omega.{arith}
use Rattle.steps.proofs.Pairs.{both_joined}
use Rattle.mortgage.specs.Kinds.{level}
use Rattle.mortgage.proofs.PlaceLaws.{rest_within}
use Rattle.mortgage.proofs.DrawCases.{wide}
use Rattle.mortgage.proofs.pairs.lay_pair.Goals as goal

pub lay_from-requires : goal.lay_from-requires
lay_from-requires c =
    let run = c.pair_rows-next.ensures in
    (omega arith, omega arith, rest_within level _ _ _ _ run.laid.x_state (omega arith) c.requires.count_bound.0)

pub lay_from-requires-2 : goal.lay_from-requires-2
lay_from-requires-2 c =
    let run = c.pair_rows-next.ensures in
    (omega arith, omega arith, rest_within level _ _ _ _ run.laid.y_state (omega arith) c.requires.count_bound.1)

pub returns : goal.returns
returns c =
    let x = c.lay_from in
    let y = c.lay_from-2 in
    both_joined (wide level) c.pair_rows-next.ensures.laid (omega arith) c.requires.count_nonzero.1 x.ensures.value x.ensures.room_after y.ensures.value y.ensures.room_after
