-- `elementary::powers::raise_each` meets its contract: each turn of the loop is a turn of the definition at every number. Assumes nothing.
use Rattle.std.proofs.Common.{◌≡◌, sym, ap, ◌∙◌, ◌/◌, map}
use Rattle.std.specs.Float.{binary64}
use Rattle.std.specs.Float.Ieee.{Float, mul}
use Rattle.elementary.specs.WholePower.{turns}
use Rattle.elementary.proofs.Turns.{ended}
use Rattle.elementary.proofs.PartWay.{map_alike, map_same}
use Rattle.elementary.proofs.InARow.{even_turn, odd_turn}
use Rattle.elementary.proofs.powers.raise_each.Goals as goal
use Rattle.elementary.proofs.powers.raise_each.Goals.{then-left-eq1, else-left-eq1}

pub loop-left-preserved : goal.loop-left-preserved
loop-left-preserved c =
    let h = c.loop-left in
    -- the numbers after the `if`, at an odd exponent and at an even one
    let multiplied : map (λ (x : Float). turns h.left h.left x h.square) h.numbers ≡ map (λ (x : Float). turns (h.left / 2) (h.left / 2) x (mul binary64 h.square h.square)) c.if-left-eq1.numbers =
    elim c.if-left-eq1.branch [
      | then-left-eq1 w ↦ odd_turn h.left h.square h.numbers w.if-left-eq1.true ∙ ap (map _) (sym (w.numbers-is ∙ w.multiply_each.ensures))
      | else-left-eq1 w ↦ even_turn h.left h.square h.numbers w.if-left-eq1.false ∙ ap (map _) (sym w.numbers-is)
    ] in
    h.invariant ∙ multiplied

pub returns : goal.returns
returns c =
    let h = c.loop-left in
    sym (h.invariant ∙ map_alike _ _ (λ x. ended h.left x h.square c.loop-left-test.false) h.numbers ∙ map_same h.numbers)
